-- The line of a number that has no place.
use Rattle.std.proofs.Common.{◌≡◌, ℕ, List, length, ℤ, pos, negsuc, None, refl, ⊎_elim, arith}
use borrow.Author.Differences.{ints}
use Rattle.std.proofs.lemmas.List.{get_or_past}
use Rattle.lines.specs.Lines.{Line, no_line, line_no}
use Rattle.families.specs.Places.{Placed}

pub unplaced : (ls : List Line) (n : ℕ) (z : ℤ) → length ls ≡ n → Placed n z None → line_no ls z ≡ no_line
unplaced ls n (pos k) l e = ⊎_elim (λ h. absurd (omega (arith, ints))) (λ h. get_or_past ls k no_line (omega (arith, ints))) e
unplaced ls n (negsuc k) l e = refl
