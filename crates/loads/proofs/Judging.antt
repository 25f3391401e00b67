-- A capacity that is given is checked.
use Rattle.std.proofs.Common.{◌≡◌, Bool, List, ℤ, Some, Decides, Option, sym, subst}
use Rattle.std.specs.Prelude.{Any}
use Rattle.loads.specs.Sums.{three_sums, OneOfThree, Given}

-- a capacity o that is given bounds the three sums by c of it
pub given : (P : ℤ → ℤ → Type 0) (c : ℤ → ℤ) (r : Bool) (o : Option ℤ) (u g q b k : ℤ) (sums : List ℤ) → o ≡ Some k → b ≡ c k → sums ≡ three_sums u g q → Decides r (Any (P b) sums) → Decides r (Given (λ capacity. OneOfThree (P (c capacity)) u g q) o)
given P c r o u g q b k sums is e all d =
    subst (λ (o : Option ℤ). Decides r (Given (λ capacity. OneOfThree (P (c capacity)) u g q) o)) (sym is)
    (subst (λ (b : ℤ). Decides r (OneOfThree (P b) u g q)) e (subst (λ (xs : List ℤ). Decides r (Any (P b) xs)) all d))
