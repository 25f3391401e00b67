-- The main theorem: the written record goes furthest among all legal arrangements.
use Rattle.std.proofs.Common.{◌≡◌, ℕ, ◌≤◌, Bool, true, false, List, [], ◌∷◌, map, take, drop, ℤ, pos, negsuc, sym, refl, ap, ◌∙◌, subst, arith}
use borrow.Author.Differences.{ints, lt-false}
use lib.Signed.{lt_z}
use Rattle.std.specs.List.{AllByRecursion}
use Rattle.keeper.specs.Order.{Order}
use Rattle.keeper.specs.Worst.{Worst}
use Rattle.lines.specs.Lines.{Line}
use Rattle.loads.specs.declared.decks.Deck.{Deck}
use Rattle.loads.specs.declared.load_sets.Loads.{Loads}
use Rattle.loads.specs.Decks.{Lane, Legal}
use Rattle.loads.specs.Sums.{share, traffic_sum}
use Rattle.traffic.specs.declared.records.LaneRecord.{LaneRecord}
use Rattle.traffic.specs.declared.records.Record.{Record}
use Rattle.traffic.specs.Records.{lane_of, arrangement, Unused, blank, InForm}
use Rattle.deck_search.specs.declared.layouts.Slot.{Slot}
use Rattle.deck_search.specs.declared.layouts.Layout.{Layout}
use Rattle.deck_search.specs.declared.worths.Worths.{Worths}
use Rattle.deck_search.specs.Layouts.{LegalLayout, worth, total, slots_of}
use Rattle.lane_search.specs.declared.places.LanePlace.{LanePlace}
use Rattle.lane_search.specs.declared.reaches.Reach.{Reach}
use Rattle.lane_search.specs.Places.{Kind, Reaches}
use Rattle.lane_search.specs.Readings.{Alike}
use Rattle.search.specs.declared.directions.Direction.TheVariants.{Up, Down}
use Rattle.search.specs.Fillings.{by_share, added_by, sum_in, place_in, Furthest, place_for, lane_at, lane_record, Written}
use Rattle.search.specs.Findings.{Found, Reached}
use Rattle.search.proofs.Optimum.{shared_reach, optimum}
use Rattle.search.proofs.SameLine.{reaches_alike}

abbrev UnusedPlace : LanePlace → Type 0
UnusedPlace p = Unused p.code p.a p.z p.sign

abbrev UnusedLane : LaneRecord → Type 0
UnusedLane x = Unused x.code x.a x.z x.sign

unused_either : (c : ℤ) (p q : LanePlace) → UnusedPlace p → UnusedPlace q → UnusedPlace (by_share c p q)
unused_either (pos n) p q h k = h
unused_either (negsuc n) p q h k = k

module _ (l : Line) (t : Loads) (ss : List ℤ) (place : Bool → ℤ → LanePlace) where
  lanes_same : (xs : List Slot) → map (lane_of l t) (map (lane_record ss place) xs) ≡ map (lane_at l t ss place) xs
  lanes_same [] = refl
  lanes_same (x ∷ xs) = ap (λ (ys : List Lane). lane_at l t ss place x ∷ ys) (lanes_same xs)

unused_lanes : (ss : List ℤ) (place : Bool → ℤ → LanePlace) → ((h : Bool) (c : ℤ) → UnusedPlace (place h c)) → (xs : List Slot) → AllByRecursion UnusedLane (map (lane_record ss place) xs)
unused_lanes ss place u [] = tt
unused_lanes ss place u (x ∷ xs) = (u x.heavy (share ss (pos x.centre)), unused_lanes ss place u xs)

-- a record with the lanes of a layout is in form and stands for the filled layout
written_form : (ss : List ℤ) (place : Bool → ℤ → LanePlace) (layout : Layout) (r : Record) → ((h : Bool) (c : ℤ) → UnusedPlace (place h c)) → Written (lane_record ss place) layout r → InForm r
written_form ss place layout r u w = record {
  count = subst (λ (n : ℕ). n ≤ 6) (sym w.count) layout.few;
  unused = subst (λ (n : ℕ). AllByRecursion UnusedLane (take n r.lanes)) (sym w.count) (subst (AllByRecursion UnusedLane) (sym w.lanes) (unused_lanes ss place u (slots_of layout)));
  past = subst (λ (n : ℕ). AllByRecursion (λ x. x ≡ blank) (drop n r.lanes)) (sym w.count) w.past;
}

written_lanes : (l : Line) (t : Loads) (ss : List ℤ) (place : Bool → ℤ → LanePlace) (layout : Layout) (r : Record) → Written (lane_record ss place) layout r → arrangement l t r ≡ map (lane_at l t ss place) (slots_of layout)
written_lanes l t ss place layout r w =
    ap (λ (n : ℕ). map (lane_of l t) (take n r.lanes)) w.count
    ∙ ap (map (lane_of l t)) w.lanes
    ∙ lanes_same l t ss place (slots_of layout)

-- The worst layout for the furthest loads of a lane both ways, filled with these loads and written, goes furthest among all legal arrangements.
pub worst_of_all : {S O : Type 0} {beyond : ℤ → ℤ → Bool} (o : Order beyond) (l : Line) (t : Loads) (w : Deck) (ss : List ℤ) (on : Reach S) (back : Reach O) (ws : Worths) (s : ℤ) (layout : Layout) (r : Record) →
    Furthest beyond l t on → Furthest (λ a b. beyond b a) l t back →
    w.width ≤ 120 →
    ((h : Bool) (k : ℕ) → k ≤ 120 → worth ws (record { heavy = h; centre = k }) ≡ added_by (share ss (pos k)) (sum_in on h) (sum_in back h)) →
    Worst beyond (total ws) (LegalLayout w) s (slots_of layout) →
    Written (lane_record ss (place_for on back)) layout r →
    Reached beyond t w l ss s layout.count r
worst_of_all o l t w ss on back ws s layout r f b wide adds worst written =
    let place : Bool → ℤ → LanePlace = place_for on back in
    let best : Bool → ℤ → ℤ = λ h c. by_share c (sum_in on h) (sum_in back h) in
    let top = optimum o l t w ss best place ws s (slots_of layout)
    (λ h c. shared_reach o l t h c (sum_in on h) (sum_in back h) (place_in on h) (place_in back h) (f h) (b h))
    (λ h k le. adds h k (omega arith))
    worst in
    let is = written_lanes l t ss place layout r written in
    record {
      accepted = record {
        form = written_form ss place layout r (λ h c. unused_either c (place_in on h) (place_in back h) (f h).unused (b h).unused) written;
        legal = subst (Legal t w) (sym is) top.within;
      };
      reached = top.reached ∙ ap (traffic_sum l t ss) (sym is);
      lanes = sym written.count;
      furthest = top.none;
    }

-- upwards no further is at most, downwards at least
pub found_up : {t : Loads} {w : Deck} {l : Line} {ss : List ℤ} {s : ℤ} {n : ℕ} {r : Record} → Reached (λ a b. lt_z b a) t w l ss s n r → Found Up t w l ss s n r
found_up {t} {w} {l} {ss} {s} f = record {
  accepted = f.accepted;
  reached = f.reached;
  lanes = f.lanes;
  furthest = λ xs h. omega (arith, ints, lt-false s (traffic_sum l t ss xs) (f.furthest xs h));
}

pub found_down : {t : Loads} {w : Deck} {l : Line} {ss : List ℤ} {s : ℤ} {n : ℕ} {r : Record} → Reached (λ a b. lt_z a b) t w l ss s n r → Found Down t w l ss s n r
found_down {t} {w} {l} {ss} {s} f = record {
  accepted = f.accepted;
  reached = f.reached;
  lanes = f.lanes;
  furthest = λ xs h. omega (arith, ints, lt-false (traffic_sum l t ss xs) s (f.furthest xs h));
}

both_kinds : {S : Type 0} {beyond : ℤ → ℤ → Bool} (l : Line) (t : Loads) (r : Reach S) → Reaches beyond l t (Kind t true) r.heavy.sum r.heavy.place → Reaches beyond l t (Kind t false) r.light.sum r.light.place → Furthest beyond l t r
both_kinds l t r a b true = a
both_kinds l t r a b false = b

-- the same on a line that is like the one that was read
pub both_alike : {S : Type 0} {beyond : ℤ → ℤ → Bool} (l m : Line) (t : Loads) (r : Reach S) → Alike l m → Reaches beyond l t (Kind t true) r.heavy.sum r.heavy.place → Reaches beyond l t (Kind t false) r.light.sum r.light.place → Furthest beyond m t r
both_alike l m t r alike a b h = reaches_alike l m t h (sum_in r h) (place_in r h) alike (both_kinds l t r a b h)
