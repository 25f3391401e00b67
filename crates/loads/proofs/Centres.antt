-- Shares that are kept in an array.
use Rattle.std.proofs.Common.{◌≡◌, ℕ, zero, suc, ◌-◌, ◌≤◌, List, ◌++◌, length, get_or, drop, replicate, ℤ, pos, nat_abs, sym, refl, ◌∙◌, subst, ⊎_elim, arith}
use Rattle.std.proofs.lemmas.Bool.{cases_lt}
use Rattle.std.proofs.lemmas.List.{get_or-drop, get_or_append_left, get_or-append_right}
use Rattle.loads.specs.Shares.{FairShares}

pub zeros_small : (n j : ℕ) → nat_abs (get_or (replicate n (pos 0)) j (pos 0)) ≤ 100
zeros_small zero j = omega arith
zeros_small (suc n) zero = omega arith
zeros_small (suc n) (suc j) = zeros_small n j

-- shares, and zeros after them
pub padded_small : (given kept : List ℤ) (m n : ℕ) → kept ≡ given → FairShares given → (k : ℕ) → nat_abs (get_or (kept ++ drop m (replicate n (pos 0))) k (pos 0)) ≤ 100
padded_small given kept m n same fair k =
    subst (λ (xs : List ℤ). nat_abs (get_or (xs ++ drop m (replicate n (pos 0))) k (pos 0)) ≤ 100) (sym same)
    (let rest = drop m (replicate n (pos 0)) in
    ⊎_elim
    (λ lt. subst (λ (z : ℤ). nat_abs z ≤ 100) (sym (get_or_append_left given rest (pos 0) k lt)) (fair k lt))
    (λ le. subst (λ (z : ℤ). nat_abs z ≤ 100) (sym (get_or-append_right given rest (length given) k (pos 0) refl le ∙ get_or-drop m (replicate n (pos 0)) (k - length given) (pos 0))) (zeros_small n _))
    (cases_lt k (length given)))
