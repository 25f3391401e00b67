-- Layouts that are filled with loads.
use Rattle.std.specs.Prelude.{◌≡◌, Bool, cond, List, map, take, drop, ℤ, pos, negsuc, ◌*ℤ◌}
use Rattle.std.specs.List.{AllByRecursion}
use Rattle.lines.specs.Lines.{Line}
use Rattle.loads.specs.declared.load_sets.Loads.{Loads}
use Rattle.loads.specs.Decks.{Lane}
use Rattle.loads.specs.Sums.{share}
use Rattle.traffic.specs.declared.records.LaneRecord.{LaneRecord}
use Rattle.traffic.specs.declared.records.Record.{Record}
use Rattle.traffic.specs.Records.{blank}
use Rattle.deck_search.specs.declared.layouts.Slot.{Slot}
use Rattle.deck_search.specs.declared.layouts.Layout.{Layout}
use Rattle.deck_search.specs.Layouts.{slots_of}
use Rattle.lane_search.specs.declared.places.LanePlace.{LanePlace}
use Rattle.lane_search.specs.declared.reaches.Reach.{Reach}
use Rattle.lane_search.specs.Places.{load_at, Kind, Reaches}

-- What stands with a share: the first for a share of 0 or more, the second for one below 0.
abbrev pub by_share : {X : Type 0} → ℤ → X → X → X
by_share (pos n) on back = on
by_share (negsuc n) on back = back

-- What a lane adds to the sum, by its share and the furthest effects both ways.
abbrev pub added_by : ℤ → ℤ → ℤ → ℤ
added_by c on back = c *ℤ by_share c on back

-- The furthest effect in a lane of a kind, and its place.
abbrev pub sum_in : {S : Type 0} → Reach S → Bool → ℤ
sum_in r heavy = cond heavy r.heavy.sum r.light.sum

abbrev pub place_in : {S : Type 0} → Reach S → Bool → LanePlace
place_in r heavy = cond heavy r.heavy.place r.light.place

-- In both kinds of lane the loads go furthest.
abbrev pub Furthest : {S : Type 0} → (ℤ → ℤ → Bool) → Line → Loads → Reach S → Type 0
Furthest beyond l t r = (h : Bool) → Reaches beyond l t (Kind t h) (sum_in r h) (place_in r h)

-- The place for a kind of lane and the share at its centre.
abbrev pub place_for : {S O : Type 0} → Reach S → Reach O → Bool → ℤ → LanePlace
place_for on back h c = by_share c (place_in on h) (place_in back h)

-- The lane that a slot becomes: the place of its kind for the share at its centre.
abbrev pub lane_at : Line → Loads → List ℤ → (Bool → ℤ → LanePlace) → Slot → Lane
lane_at l t ss place x = record { centre = pos x.centre; load = load_at l t (place x.heavy (share ss (pos x.centre))) }

-- The same lane as a record has it.
abbrev pub lane_record : List ℤ → (Bool → ℤ → LanePlace) → Slot → LaneRecord
lane_record ss place x =
    let p = place x.heavy (share ss (pos x.centre)) in
    record { centre = pos x.centre; code = p.code; a = p.a; z = p.z; sign = p.sign }

-- The record has these lanes for the slots of a layout, and blank ones past them.
pub record Written (lane : Slot → LaneRecord) (layout : Layout) (r : Record) : Type 0 where
  pub count : r.count ≡ layout.count
  pub lanes : take layout.count r.lanes ≡ map lane (slots_of layout)
  pub past : AllByRecursion (λ x. x ≡ blank) (drop layout.count r.lanes)
