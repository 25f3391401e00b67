-- What an influence line is, what a family of them is, and how both are read.
use Rattle.std.specs.Prelude.{ℕ, ◌<◌, ◌≤◌, cond, List, length, ℤ, pos, negsuc, nat_le, slice_index_or, unsigned_abs}

-- An influence line over the whole millimetres 0 .. len. One kN at x has the effect ordinate x / scale.
pub record Line : Type 0 where
  pub len : ℕ
  pub scale : ℕ
  pub ordinate : ℕ → ℤ

-- What is read of a line that is not there.
abbrev pub no_line : Line
no_line = record { len = 0; scale = 0; ordinate = λ _. pos 0 }

-- The line of any number among lines that are numbered from 0.
abbrev pub line_no : List Line → ℤ → Line
line_no ls (pos n) = slice_index_or ls n no_line
line_no ls (negsuc n) = no_line

-- The ordinate at any whole x: 0 off the line.
abbrev pub ordinate_or_zero : Line → ℤ → ℤ
ordinate_or_zero l (pos x) = cond (nat_le x l.len) (l.ordinate x) (pos 0)
ordinate_or_zero l (negsuc x) = pos 0

-- The limits of one line.
pub record Fair (l : Line) : Type 0 where
  pub len_low : 1 ≤ l.len
  pub len_high : l.len ≤ 100000
  pub scale_low : 1 ≤ l.scale
  pub scale_high : l.scale ≤ 1000
  pub small : (x : ℕ) → x ≤ l.len → unsigned_abs (l.ordinate x) ≤ 1000000

-- The limits of a family: at most 65,535 lines, each within its own.
pub record Limits (ls : List Line) : Type 0 where
  pub few : length ls ≤ 65535
  pub fair : (i : ℕ) → i < length ls → Fair (slice_index_or ls i no_line)
