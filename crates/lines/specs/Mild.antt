-- The limits of any line that is read from a family.
use Rattle.std.specs.Prelude.{◌≤◌, List, length, ℤ, pos, negsuc, nat_le, unsigned_abs}
use Rattle.std.proofs.Common.{sym, subst, ⊎_elim, arith}
use Rattle.std.proofs.lemmas.Bool.{cases_lt, cond_both, leb-true}
use Rattle.std.proofs.lemmas.List.{get_or_past}
use Rattle.lines.specs.Lines.{Line, no_line, line_no, ordinate_or_zero, Fair, Limits}

-- What holds of each line of a family, and of a line that is not there.
pub record Mild (l : Line) : Type 0 where
  pub len_high : l.len ≤ 100000
  pub scale_high : l.scale ≤ 1000
  pub small : (x : ℤ) → unsigned_abs (ordinate_or_zero l x) ≤ 1000000

pub no_line_mild : Mild no_line
no_line_mild = record {
  len_high = omega arith;
  scale_high = omega arith;
  small = none;
}
  where
    none : (x : ℤ) → unsigned_abs (ordinate_or_zero no_line x) ≤ 1000000
    none (pos x) = cond_both (nat_le x 0) (pos 0) (pos 0) (λ y. unsigned_abs y ≤ 1000000) (λ _. omega arith) (λ _. omega arith)
    none (negsuc x) = omega arith

pub fair_mild : (l : Line) → Fair l → Mild l
fair_mild l fair = record {
  len_high = fair.len_high;
  scale_high = fair.scale_high;
  small = at;
}
  where
    at : (x : ℤ) → unsigned_abs (ordinate_or_zero l x) ≤ 1000000
    at (pos x) = cond_both (nat_le x l.len) (l.ordinate x) (pos 0) (λ y. unsigned_abs y ≤ 1000000) (λ e. fair.small x (leb-true x l.len e)) (λ _. omega arith)
    at (negsuc x) = omega arith

pub mild : (ls : List Line) → Limits ls → (i : ℤ) → Mild (line_no ls i)
mild ls ok (pos n) = ⊎_elim (λ h. fair_mild _ (ok.fair n h)) (λ h. subst Mild (sym (get_or_past ls n no_line h)) no_line_mild) (cases_lt n (length ls))
mild ls ok (negsuc n) = no_line_mild
