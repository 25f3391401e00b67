-- The cells of a line, and the double areas under a set of them.
use Rattle.std.specs.Prelude.{ℕ, zero, suc, ◌+◌, min, Bool, cond, ◌&&◌, ℤ, pos, negsuc, ◌+ℤ◌, int_le, int_lt, nat_lt}
use Rattle.lines.specs.Lines.{Line, ordinate_or_zero}

-- Cell k, from 0 to len - 1, is the millimetre from k to k + 1. Its double area is twice the area under it.
abbrev pub double_area : Line → ℕ → ℤ
double_area l k = ordinate_or_zero l (pos k) +ℤ ordinate_or_zero l (pos (k + 1))

-- The same for any k: 0 where there is no such cell.
abbrev pub cell_area : Line → ℤ → ℤ
cell_area l (pos k) = cond (nat_lt k l.len) (double_area l k) (pos 0)
cell_area l (negsuc k) = pos 0

-- The double areas of the cells below n that are in the set.
unfoldable pub under : Line → (ℕ → Bool) → ℕ → ℤ
under l set zero = pos 0
under l set (suc n) = under l set n +ℤ cond (set n) (double_area l n) (pos 0)

-- The double areas of the line's own cells that are in the set.
abbrev pub areas : Line → (ℕ → Bool) → ℤ
areas l set = under l set l.len

-- The cells from a on, n of them.
abbrev pub block : ℤ → ℕ → ℕ → Bool
block a n k = int_le a (pos k) && int_lt (pos k) (a +ℤ pos n)

-- The place of x on a stretch from 0 to n.
abbrev pub clip : ℕ → ℤ → ℕ
clip n (pos x) = min x n
clip n (negsuc x) = 0
