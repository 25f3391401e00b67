-- The best layout, filled with the best load of each lane, goes furthest among all legal arrangements.
use Rattle.std.proofs.Common.{◌≡◌, ℕ, ◌+◌, ◌≤◌, Bool, true, false, cond, List, [], ◌∷◌, map, ℤ, pos, negsuc, ◌+ℤ◌, ◌-ℤ◌, ◌*ℤ◌, neg_ℤ, nat_abs, ◌≤ℤ◌, sym, refl, ap, ◌∙◌, subst, arith}
use borrow.Author.Differences.{ints}
use lib.IntN.{+ℤ_comm}
use Rattle.std.specs.List.{AllByRecursion}
use Rattle.keeper.specs.Order.{Order}
use Rattle.keeper.specs.Worst.{Worst}
use Rattle.keeper.proofs.Steps.{not_beyond_itself}
use Rattle.keeper.proofs.Scales.{added, shared_on, shared_back}
use Rattle.lines.specs.Lines.{Line}
use Rattle.lines.proofs.Products.{product_small}
use Rattle.loads.specs.declared.decks.Deck.{Deck}
use Rattle.loads.specs.declared.load_sets.Loads.{Loads}
use Rattle.loads.specs.Loads.{lane_effect}
use Rattle.loads.specs.Decks.{Lane, heavy, half, past, left_side, right_side, Within, Before, Apart, heavies, Placed, Legal}
use Rattle.loads.specs.Sums.{share, shared, traffic_sum}
use Rattle.deck_search.specs.declared.layouts.Slot.{Slot}
use Rattle.deck_search.specs.declared.worths.Worths.{Worths}
use Rattle.deck_search.specs.Layouts.{slot_left, slot_right, SlotWithin, SlotBefore, SlotsApart, slot_heavies, LegalLayout, worth, total}
use Rattle.lane_search.specs.declared.places.LanePlace.{LanePlace}
use Rattle.lane_search.specs.Places.{load_at, Kind, Reaches}
use Rattle.search.specs.Fillings.{by_share, lane_at}

-- the furthest of what a lane adds, from the furthest effects in both senses
pub shared_reach : {beyond : ℤ → ℤ → Bool} (o : Order beyond) (l : Line) (t : Loads) (h : Bool) (c s u : ℤ) (p q : LanePlace) → Reaches beyond l t (Kind t h) s p → Reaches (λ a b. beyond b a) l t (Kind t h) u q →
    Worst beyond (λ x. c *ℤ lane_effect l t x) (Kind t h) (c *ℤ by_share c s u) (load_at l t (by_share c p q))
shared_reach o l t h (pos n) s u p q on back = shared_on o (lane_effect l t) (Kind t h) (pos n) s _ (load_at l t p) _ (omega (arith, ints)) on.furthest refl refl
shared_reach {beyond = beyond} o l t h (negsuc n) s u p q on back =
    shared_back o (λ a b. beyond b a) (λ _ _. refl) (lane_effect l t) (Kind t h) (negsuc n) u _ (load_at l t q) _ (omega (arith, ints)) back.furthest refl refl

-- what a lane adds fits the worths
pub shared_small : (c s : ℤ) → nat_abs c ≤ 100 → nat_abs s ≤ 330000000000000 → nat_abs (c *ℤ s) ≤ 33000000000000000
shared_small c s h k = product_small c s 100 330000000000000 h k

-- the lane stands in the slot
record InSlot (x : Lane) (y : Slot) : Type 0 where
  kind : heavy x.load ≡ y.heavy
  centre : x.centre ≡ pos y.centre

-- each lane stands in its slot
abbrev InSlots : List Lane → List Slot → Type 0
InSlots [] [] = Unit {0}
InSlots [] (y ∷ ys) = ⊥
InSlots (x ∷ xs) [] = ⊥
InSlots (x ∷ xs) (y ∷ ys) = InSlot x y × InSlots xs ys

left_same : (x : Lane) (y : Slot) → InSlot x y → left_side x ≡ slot_left y
left_same x y f = ap (λ (c : ℤ). c -ℤ pos (half (heavy x.load))) f.centre ∙ ap (λ (b : Bool). pos y.centre -ℤ pos (half b)) f.kind

right_same : (x : Lane) (y : Slot) → InSlot x y → right_side x ≡ slot_right y
right_same x y f = ap (λ (c : ℤ). c +ℤ pos (half (heavy x.load))) f.centre ∙ ap (λ (b : Bool). pos y.centre +ℤ pos (half b)) f.kind

module _ (w : Deck) where
  -- the two halves of lying within the width
  abbrev From : Bool → ℤ → Type 0
  From b z = neg_ℤ (pos (past b w.left)) ≤ℤ z

  abbrev To : Bool → ℤ → Type 0
  To b z = z ≤ℤ pos (w.width + past b w.right)

  within_slot : (x : Lane) (y : Slot) → InSlot x y → Within w x → SlotWithin w y
  within_slot x y f h = record {
    from = subst (λ (b : Bool). From b (slot_left y)) f.kind (subst (From (heavy x.load)) (left_same x y f) h.from);
    to = subst (λ (b : Bool). To b (slot_right y)) f.kind (subst (To (heavy x.load)) (right_same x y f) h.to);
  }

  within_lane : (x : Lane) (y : Slot) → InSlot x y → SlotWithin w y → Within w x
  within_lane x y f h = record {
    from = subst (λ (b : Bool). From b (left_side x)) (sym f.kind) (subst (From y.heavy) (sym (left_same x y f)) h.from);
    to = subst (λ (b : Bool). To b (right_side x)) (sym f.kind) (subst (To y.heavy) (sym (right_same x y f)) h.to);
  }

  all_slots : (xs : List Lane) (ys : List Slot) → InSlots xs ys → AllByRecursion (Within w) xs → AllByRecursion (SlotWithin w) ys
  all_slots [] [] f h = tt
  all_slots [] (y ∷ ys) f h = absurd f
  all_slots (x ∷ xs) [] f h = absurd f
  all_slots (x ∷ xs) (y ∷ ys) f h = (within_slot x y f.0 h.0, all_slots xs ys f.1 h.1)

  all_lanes : (xs : List Lane) (ys : List Slot) → InSlots xs ys → AllByRecursion (SlotWithin w) ys → AllByRecursion (Within w) xs
  all_lanes [] [] f h = tt
  all_lanes [] (y ∷ ys) f h = absurd f
  all_lanes (x ∷ xs) [] f h = absurd f
  all_lanes (x ∷ xs) (y ∷ ys) f h = (within_lane x y f.0 h.0, all_lanes xs ys f.1 h.1)

before_slots : (x : Lane) (y : Slot) (xs : List Lane) (ys : List Slot) → InSlot x y → InSlots xs ys → Before x xs ≡ SlotBefore y ys
before_slots x y [] [] e f = refl
before_slots x y [] (b ∷ ys) e f = absurd f
before_slots x y (a ∷ xs) [] e f = absurd f
before_slots x y (a ∷ xs) (b ∷ ys) e f = ap (λ (z : ℤ). z ≤ℤ left_side a) (right_same x y e) ∙ ap (λ (z : ℤ). slot_right y ≤ℤ z) (left_same a b f.0)

apart_slots : (xs : List Lane) (ys : List Slot) → InSlots xs ys → Apart xs ≡ SlotsApart ys
apart_slots [] [] f = refl
apart_slots [] (y ∷ ys) f = absurd f
apart_slots (x ∷ xs) [] f = absurd f
apart_slots (x ∷ xs) (y ∷ ys) f = ap (λ (P : Type 0). P × Apart xs) (before_slots x y xs ys f.0 f.1) ∙ ap (λ (P : Type 0). SlotBefore y ys × P) (apart_slots xs ys f.1)

heavies_slots : (xs : List Lane) (ys : List Slot) → InSlots xs ys → heavies xs ≡ slot_heavies ys
heavies_slots [] [] f = refl
heavies_slots [] (y ∷ ys) f = absurd f
heavies_slots (x ∷ xs) [] f = absurd f
heavies_slots (x ∷ xs) (y ∷ ys) f = ap (λ (b : Bool). cond b 1 0 + heavies xs) f.0.kind ∙ ap (λ (n : ℕ). cond y.heavy 1 0 + n) (heavies_slots xs ys f.1)

-- lanes are legal where their slots are, and the other way round
legal_slots : (t : Loads) (w : Deck) (xs : List Lane) (ys : List Slot) → InSlots xs ys → Legal t w xs → LegalLayout w ys
legal_slots t w xs ys f h = record {
  within = all_slots w xs ys f h.within;
  apart = subst (λ (P : Type 0). P) (apart_slots xs ys f) h.apart;
  two_heavy = subst (λ (n : ℕ). n ≤ 2) (heavies_slots xs ys f) h.two_heavy;
}

legal_lanes : (t : Loads) (w : Deck) (xs : List Lane) (ys : List Slot) → InSlots xs ys → AllByRecursion (λ x. Placed t x.load) xs → LegalLayout w ys → Legal t w xs
legal_lanes t w xs ys f p h = record {
  within = all_lanes w xs ys f h.within;
  apart = subst (λ (P : Type 0). P) (sym (apart_slots xs ys f)) h.apart;
  two_heavy = subst (λ (n : ℕ). n ≤ 2) (sym (heavies_slots xs ys f)) h.two_heavy;
  placed = p;
}

past_small : (h r : Bool) → past h r ≤ 2
past_small true true = omega arith
past_small true false = omega arith
past_small false r = omega arith

half_large : (h : Bool) → 10 ≤ half h
half_large true = omega arith
half_large false = omega arith

-- a lane within the width has its centre on it
on_width : (h a b : Bool) (n : ℕ) (c : ℤ) → neg_ℤ (pos (past h a)) ≤ℤ (c -ℤ pos (half h)) → (c +ℤ pos (half h)) ≤ℤ pos (n + past h b) → (c ≡ pos (nat_abs c)) × (nat_abs c ≤ n)
on_width h a b n (pos c) lo hi = (refl, omega (arith, ints, past_small h b, half_large h))
on_width h a b n (negsuc c) lo hi = absurd (omega (arith, ints, past_small h a, half_large h))

centred : (w : Deck) (x : Lane) → Within w x → (x.centre ≡ pos (nat_abs x.centre)) × (nat_abs x.centre ≤ w.width)
centred w x h = on_width (heavy x.load) w.left w.right w.width x.centre h.from h.to

abbrev slot_of : Lane → Slot
slot_of x = record { heavy = heavy x.load; centre = nat_abs x.centre }

in_slots : (w : Deck) (xs : List Lane) → AllByRecursion (Within w) xs → InSlots xs (map slot_of xs)
in_slots w [] h = tt
in_slots w (x ∷ xs) h = (record { kind = refl; centre = (centred w x h.0).0 }, in_slots w xs h.1)

module _
    {beyond : ℤ → ℤ → Bool} (o : Order beyond) (l : Line) (t : Loads) (w : Deck) (ss : List ℤ) (best : Bool → ℤ → ℤ) (place : Bool → ℤ → LanePlace) (ws : Worths)
    (fill : (h : Bool) (c : ℤ) → Worst beyond (λ x. c *ℤ lane_effect l t x) (Kind t h) (c *ℤ best h c) (load_at l t (place h c)))
    (adds : (h : Bool) (k : ℕ) → k ≤ w.width → worth ws (record { heavy = h; centre = k }) ≡ share ss (pos k) *ℤ best h (share ss (pos k))) where
  -- no lane adds more than its slot is worth
  lane_below : (x : Lane) → Within w x → Placed t x.load → beyond (shared l t ss x) (worth ws (slot_of x)) ≡ false
  lane_below x h p =
      let k = nat_abs x.centre in
      let c = share ss (pos k) in
      let e : share ss x.centre ≡ c = ap (share ss) (centred w x h).0 in
      let v = adds (heavy x.load) k (centred w x h).1 in
      let n : beyond (c *ℤ lane_effect l t x.load) (c *ℤ best (heavy x.load) c) ≡ false = (fill (heavy x.load) c).none x.load (refl, p) in
      ap (λ (z : ℤ). beyond (z *ℤ lane_effect l t x.load) (worth ws (slot_of x))) e ∙ ap (beyond (c *ℤ lane_effect l t x.load)) v ∙ n

  sum_below : (xs : List Lane) → AllByRecursion (Within w) xs → AllByRecursion (λ x. Placed t x.load) xs → beyond (traffic_sum l t ss xs) (total ws (map slot_of xs)) ≡ false
  sum_below [] h p = not_beyond_itself o (pos 0)
  sum_below (x ∷ xs) h p =
      ap (beyond (shared l t ss x +ℤ traffic_sum l t ss xs)) (+ℤ_comm (total ws (map slot_of xs)) (worth ws (slot_of x)))
      ∙ added o _ _ _ _ (lane_below x h.0 p.0) (sum_below xs h.1 p.1)

  fill_slots : (ys : List Slot) → InSlots (map (lane_at l t ss place) ys) ys
  fill_slots [] = tt
  fill_slots (y ∷ ys) = (record { kind = (fill y.heavy (share ss (pos y.centre))).within.0; centre = refl }, fill_slots ys)

  fill_placed : (ys : List Slot) → AllByRecursion (λ x. Placed t x.load) (map (lane_at l t ss place) ys)
  fill_placed [] = tt
  fill_placed (y ∷ ys) = ((fill y.heavy (share ss (pos y.centre))).within.1, fill_placed ys)

  -- a filled slot adds what it is worth
  fill_worth : (y : Slot) → SlotWithin w y → worth ws y ≡ shared l t ss (lane_at l t ss place y)
  fill_worth y h =
      adds y.heavy y.centre (on_width y.heavy w.left w.right w.width (pos y.centre) h.from h.to).1
      ∙ (fill y.heavy (share ss (pos y.centre))).reached

  fill_sum : (ys : List Slot) → AllByRecursion (SlotWithin w) ys → total ws ys ≡ traffic_sum l t ss (map (lane_at l t ss place) ys)
  fill_sum [] h = refl
  fill_sum (y ∷ ys) h =
      +ℤ_comm (total ws ys) (worth ws y)
      ∙ ap (λ (z : ℤ). z +ℤ total ws ys) (fill_worth y h.0)
      ∙ ap (λ (z : ℤ). shared l t ss (lane_at l t ss place y) +ℤ z) (fill_sum ys h.1)

-- the best layout, filled
pub optimum : {beyond : ℤ → ℤ → Bool} (o : Order beyond) (l : Line) (t : Loads) (w : Deck) (ss : List ℤ) (best : Bool → ℤ → ℤ) (place : Bool → ℤ → LanePlace) (ws : Worths) (s : ℤ) (slots : List Slot) →
    ((h : Bool) (c : ℤ) → Worst beyond (λ x. c *ℤ lane_effect l t x) (Kind t h) (c *ℤ best h c) (load_at l t (place h c))) →
    ((h : Bool) (k : ℕ) → k ≤ w.width → worth ws (record { heavy = h; centre = k }) ≡ share ss (pos k) *ℤ best h (share ss (pos k))) →
    Worst beyond (total ws) (LegalLayout w) s slots →
    Worst beyond (traffic_sum l t ss) (Legal t w) s (map (lane_at l t ss place) slots)
optimum o l t w ss best place ws s slots fill adds r =
    let sum_is_lem = fill_sum o l t w ss best place ws fill adds slots r.within.within in
    record {
      within = legal_lanes t w _ slots (fill_slots o l t w ss best place ws fill adds slots) (fill_placed o l t w ss best place ws fill adds slots) r.within;
      reached = r.reached ∙ sum_is_lem;
      none = λ xs h. o.chain (traffic_sum l t ss xs) (total ws (map slot_of xs)) s
          (sum_below o l t w ss best place ws fill adds xs h.within h.placed)
          (r.none (map slot_of xs) (legal_slots t w xs _ (in_slots w xs h.within) h));
    }
