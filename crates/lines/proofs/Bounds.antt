-- Ordinates on and off the line. Assumes nothing.
use Rattle.std.proofs.Common.{◌≡◌, ℕ, ◌≤◌, leb, ℤ, pos, negsuc, ◌<ℤ◌, refl, arith}
use borrow.Author.Differences.{ints}
use Rattle.std.proofs.lemmas.Bool.{cond-true, cond-false, lt-leb, le-leb}
pub use Rattle.lines.specs.Mild.{Mild, mild}
use Rattle.lines.specs.Lines.{Line, ordinate_or_zero}

-- Where an answer is 0, and where it is the line's own ordinate.
pub place_below : (l : Line) (x : ℤ) → x <ℤ pos 0 → ordinate_or_zero l x ≡ pos 0
place_below l (pos x) h = absurd (omega (arith, ints))
place_below l (negsuc x) h = refl

pub place_past : (l : Line) (x : ℤ) → pos l.len <ℤ x → ordinate_or_zero l x ≡ pos 0
place_past l (pos x) h = cond-false (leb x l.len) (l.ordinate x) (pos 0) (lt-leb x l.len (omega (arith, ints)))
place_past l (negsuc x) h = refl

pub place_on : (l : Line) (x : ℕ) → x ≤ l.len → ordinate_or_zero l (pos x) ≡ l.ordinate x
place_on l x h = cond-true (leb x l.len) (l.ordinate x) (pos 0) (le-leb x l.len h)
