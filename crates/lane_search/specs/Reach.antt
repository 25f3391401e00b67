-- The furthest ordinate in each of a row of windows.
use Rattle.std.specs.Prelude.{ℕ, ◌+◌, ◌<◌, ◌≤◌, Bool, List, length, ℤ, pos, ◌+ℤ◌, slice_index_or}
use Rattle.keeper.specs.Worst.{Worst, Between}
use Rattle.lines.specs.Lines.{Line, ordinate_or_zero}

-- v is the ordinate that goes furthest from lo up to hi, hi left out, at some place.
pub record Peak (beyond : ℤ → ℤ → Bool) (l : Line) (lo hi v : ℤ) : Type 0 where
  pub place : ℤ
  pub furthest : Worst beyond (ordinate_or_zero l) (Between lo hi) v place

-- Each place j from i on holds the furthest ordinate of the run from a + j to the row's end.
abbrev pub Backs : (ℤ → ℤ → Bool) → Line → ℤ → ℕ → List ℤ → Type 0
Backs beyond l a i vs = (j : ℕ) → i ≤ j → j < length vs → Peak beyond l (a +ℤ pos j) (a +ℤ pos (length vs)) (slice_index_or vs j (pos 0))

-- Each place j below i holds the furthest ordinate of the window from a + j on, which is as long as the row.
abbrev pub Fulls : (ℤ → ℤ → Bool) → Line → ℤ → ℕ → List ℤ → Type 0
Fulls beyond l a i vs = (j : ℕ) → j < i → Peak beyond l (a +ℤ pos j) (a +ℤ pos (length vs + j)) (slice_index_or vs j (pos 0))

-- Each place j of a row holds the furthest ordinate of the n places from a + j on.
abbrev pub Windowed : (ℤ → ℤ → Bool) → Line → ℕ → ℤ → List ℤ → Type 0
Windowed beyond l n a vs = (j : ℕ) → j < length vs → Peak beyond l (a +ℤ pos j) (a +ℤ pos (n + j)) (slice_index_or vs j (pos 0))
