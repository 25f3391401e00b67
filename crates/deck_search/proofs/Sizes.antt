-- How many lanes a layout can have, and how large its total.
use Rattle.std.proofs.Common.{◌≡◌, ℕ, zero, suc, ◌+◌, ◌-◌, ◌*◌, ◌<◌, ◌≤◌, Bool, true, false, List, [], ◌∷◌, map, length, get_or, ℤ, pos, nat_abs, arith, length-take}
use Rattle.std.proofs.lemmas.Int.{ints}
use Rattle.loads.specs.declared.decks.Deck.{Deck}
use Rattle.loads.specs.Decks.{half}
use Rattle.deck_search.specs.declared.layouts.Slot.{Slot}
use Rattle.deck_search.specs.declared.layouts.Layout.{Layout}
use Rattle.deck_search.specs.declared.worths.Worth.{Worth}
use Rattle.deck_search.specs.declared.worths.Worths.{Worths}
use Rattle.deck_search.specs.Layouts.{of_kind, worth, total, slots_of}
use Rattle.deck_search.specs.Rooms.{keeps, Stand, Cell}
use Rattle.deck_search.proofs.Starts.{sizes, ends, long, few_lanes}

kind_small : (t : Bool) (vs : List Worth) (k : ℕ) → nat_abs (get_or (map (of_kind t) vs) k (pos 0)) ≤ 33000000000000000
kind_small t [] k = omega (arith, ints)
kind_small true (v ∷ vs) zero = v.small_heavy
kind_small false (v ∷ vs) zero = v.small_light
kind_small t (v ∷ vs) (suc k) = kind_small t vs k

pub worth_small : (ws : Worths) (x : Slot) → nat_abs (worth ws x) ≤ 33000000000000000
worth_small ws x = kind_small x.heavy ws.by_centre x.centre

total_small : (ws : Worths) (xs : List Slot) → nat_abs (total ws xs) ≤ 33000000000000000 * length xs
total_small ws [] = omega (arith, ints)
total_small ws (x ∷ xs) =
    let p = total_small ws xs in
    let q = worth_small ws x in
    omega (arith, ints)

-- right of a lane stand five at most
five_lanes : (w : Deck) (x : Slot) (xs : List Slot) → w.width ≤ 120 → keeps w x ≡ true → Stand w (x.centre + 2 + half x.heavy) xs → length xs ≤ 5
five_lanes w x xs wide k st =
    let z = ends w x k in
    let y = sizes x.heavy w.left in
    let n = long w (x.centre + 2 - half x.heavy) x xs (omega arith, k, st) in
    omega arith

-- so there is a place left for it
pub room_left : (w : Deck) (x : Slot) (p : Layout) → w.width ≤ 120 → length p.slots ≡ 6 → keeps w x ≡ true → Stand w (x.centre + 2 + half x.heavy) (slots_of p) → p.count < 6
room_left w x p wide six k st =
    let n = five_lanes w x (slots_of p) wide k st in
    omega (arith, length-take p.count p.slots)

-- and their total is at most that of five
pub rest_small : (w : Deck) (ws : Worths) (x : Slot) (xs : List Slot) → w.width ≤ 120 → keeps w x ≡ true → Stand w (x.centre + 2 + half x.heavy) xs → nat_abs (total ws xs) ≤ 165000000000000000
rest_small w ws x xs wide k st =
    let n = five_lanes w x xs wide k st in
    let b = total_small ws xs in
    omega (arith, ints)

-- the sum of a layout
pub sum_small : {beyond : ℤ → ℤ → Bool} (w : Deck) (ws : Worths) (h s : ℕ) (t : ℤ) (p : Layout) → w.width ≤ 120 → Cell beyond w ws h s t p → nat_abs t ≤ 198000000000000000
sum_small w ws h s t p wide v =
    let n = few_lanes w s (slots_of p) wide v.worst.within.0 in
    let b = total_small ws (slots_of p) in
    let r = v.worst.reached in
    omega (arith, ints)
