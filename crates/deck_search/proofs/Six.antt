-- Six places for lanes.
use Rattle.std.proofs.Common.{◌≡◌, ℕ, ◌+◌, ◌<◌, ◌≤◌, List, [], ◌∷◌, length, get_or, take, refl, ap, add-one, arith, take-take}
use Rattle.deck_search.specs.declared.layouts.Slot.{Slot}

first_five : (d : Slot) (xs : List Slot) → length xs ≡ 6 → get_or xs 0 d ∷ get_or xs 1 d ∷ get_or xs 2 d ∷ get_or xs 3 d ∷ get_or xs 4 d ∷ [] ≡ take 5 xs
first_five d [] h = absurd (omega arith)
first_five d (a ∷ []) h = absurd (omega arith)
first_five d (a ∷ b ∷ []) h = absurd (omega arith)
first_five d (a ∷ b ∷ e ∷ []) h = absurd (omega arith)
first_five d (a ∷ b ∷ e ∷ f ∷ []) h = absurd (omega arith)
first_five d (a ∷ b ∷ e ∷ f ∷ g ∷ xs) h = refl

-- one more slot before the first n, where there is a place left
pub led : (x d : Slot) (n : ℕ) (xs : List Slot) → length xs ≡ 6 → n < 6 → take (n + 1) (x ∷ get_or xs 0 d ∷ get_or xs 1 d ∷ get_or xs 2 d ∷ get_or xs 3 d ∷ get_or xs 4 d ∷ []) ≡ x ∷ take n xs
led x d n xs h lt =
    let le : n ≤ 5 = omega arith in
    rw (add-one, first_five d xs h) (ap (λ (r : List Slot). x ∷ r) (take-take n 5 xs le))
