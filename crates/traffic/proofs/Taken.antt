-- The double areas of the cells that a test takes.
use Rattle.std.proofs.Common.{◌≡◌, ℕ, ◌+◌, ◌*◌, ◌<◌, ◌≤◌, Bool, true, false, cond, ℤ, pos, ◌+ℤ◌, nat_abs, sym, ap, ◌∙◌, subst, arith}
use borrow.Author.Differences.{ints}
use Rattle.lines.specs.Lines.{Line}
use Rattle.lines.specs.Cells.{double_area, under}
use Rattle.lines.proofs.UnderCells.{under_more}
use Rattle.traffic.specs.Sets.{Takes}

-- one cell more
pub taken_more : (l : Line) (set : ℕ → Bool) (Answers : ℕ → ℤ → Bool → Type 0) (k : ℕ) (d : ℤ) (b : Bool) (sum next : ℤ) → Takes l Answers set → k < l.len → d ≡ double_area l k → Answers k d b
    → sum ≡ under l set k → next ≡ sum +ℤ cond b d (pos 0) → next ≡ under l set (k + 1)
taken_more l set Answers k d b sum next h lt same p i n =
    let in_set : b ≡ set k = h k b lt (subst (λ (x : ℤ). Answers k x b) same p) in
    n ∙ ap (λ (x : ℤ). x +ℤ cond b d (pos 0)) i ∙ ap (λ (x : ℤ). under l set k +ℤ cond b x (pos 0)) same ∙ ap (λ (t : Bool). under l set k +ℤ cond t (double_area l k) (pos 0)) in_set ∙ sym (under_more l set k)

pub taken_small : (k : ℕ) (d : ℤ) (b : Bool) (sum next : ℤ) → nat_abs d ≤ 2000000 → nat_abs sum ≤ k * 2000000 → next ≡ sum +ℤ cond b d (pos 0) → nat_abs next ≤ (k + 1) * 2000000
taken_small k d true sum next h i n = omega (arith, ints)
taken_small k d false sum next h i n = omega (arith, ints)
