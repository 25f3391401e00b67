-- A block with an axle on it, and p beside it on the cells that help.
use Rattle.std.specs.Prelude.{◌≡◌, ℕ, ◌+◌, ◌*◌, ◌/◌, ◌<◌, Bool, not, ◌&&◌, List, length, ℤ, pos, negsuc, ◌+ℤ◌, ◌-ℤ◌, ◌*ℤ◌, slice_index_or}
use Rattle.keeper.specs.Worst.{Worst, Between}
use Rattle.lines.specs.Lines.{Line, ordinate_or_zero}
use Rattle.lines.specs.Cells.{areas, block}
use Rattle.loads.specs.declared.load_sets.Spread.{Spread}
use Rattle.lane_search.specs.declared.block_loads.BlockLoad.{BlockLoad}
use Rattle.lane_search.specs.Gains.{gains}

-- The block load has the factors of a weight that is spread over its block, of A and of p.
pub record Factors (s : Spread) (a p : ℕ) (b : BlockLoad) : Type 0 where
  pub length : b.length ≡ s.length
  pub rate : b.rate ≡ 112000 / s.length * s.weight
  pub extra : b.extra ≡ 224000 * a
  pub lane : b.lane ≡ 112 * p

-- The cells outside the block of n mm from a on that go further than 0.
abbrev pub beside : (ℤ → ℤ → Bool) → Line → ℕ → ℤ → ℕ → Bool
beside beyond l n a k = not (block a n k) && gains beyond l k

-- What stands with the axle where the block begins at a.
abbrev pub rest : (ℤ → ℤ → Bool) → Line → BlockLoad → ℤ → ℤ
rest beyond l b a = pos b.rate *ℤ areas l (block a b.length) +ℤ pos b.lane *ℤ areas l (beside beyond l b.length a)

-- The sum of all, where the block begins at the first and the axle stands at the second of two places.
abbrev pub laden : (ℤ → ℤ → Bool) → Line → BlockLoad → (ℤ × ℤ) → ℤ
laden beyond l b x = pos b.extra *ℤ ordinate_or_zero l x.1 +ℤ rest beyond l b x.0

-- A start from -16,000 up to hi, hi left out, and a place on the block or its ends.
abbrev pub On : ℕ → ℤ → (ℤ × ℤ) → Type 0
On n hi x = Between (negsuc 15999) hi x.0 × Between x.0 (x.0 +ℤ pos (n + 1)) x.1

-- Of the starts up to hi and the places on their blocks, the start a with some place of the axle goes furthest.
pub record Begun (beyond : ℤ → ℤ → Bool) (l : Line) (b : BlockLoad) (hi s a : ℤ) : Type 0 where
  pub axle : ℤ
  pub furthest : Worst beyond (laden beyond l b) (On b.length hi) s (a, axle)

-- Sums of double areas times the rate, less sums of those that help times the factor of p.
pub record Weighted (b : BlockLoad) (xs gs sums : List ℤ) : Type 0 where
  pub long : length sums ≡ length xs
  pub each : (k : ℕ) → k < length xs → slice_index_or sums k (pos 0) ≡ pos b.rate *ℤ slice_index_or xs k (pos 0) -ℤ pos b.lane *ℤ slice_index_or gs k (pos 0)
