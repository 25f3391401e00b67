-- Cells that help, and sums over the first cells of a line.
use Rattle.std.specs.Prelude.{◌≡◌, ℕ, ◌+◌, ◌-◌, ◌<◌, ◌≤◌, Bool, List, length, map, ℤ, pos, ◌+ℤ◌, ◌-ℤ◌, slice_index_or, unsigned_abs}
use Rattle.lines.specs.Lines.{Line}
use Rattle.lane_search.specs.declared.total.Total.{Total}
use Rattle.lines.specs.Cells.{double_area, under, clip}

-- The cells whose double area goes further than 0.
abbrev pub gains : (ℤ → ℤ → Bool) → Line → ℕ → Bool
gains beyond l k = beyond (double_area l k) (pos 0)

-- The sums of all first cells, and of those that help.
abbrev pub areas_of : List Total → List ℤ
areas_of ts = map (λ t. t.area) ts

abbrev pub helps_of : List Total → List ℤ
helps_of ts = map (λ t. t.help) ts

-- The list holds, for each k from 0 to the line's length, the double areas of the first k cells that are in the set.
pub record Running (l : Line) (set : ℕ → Bool) (sums : List ℤ) : Type 0 where
  pub long : length sums ≡ l.len + 1
  pub each : (k : ℕ) → k ≤ l.len → slice_index_or sums k (pos 0) ≡ under l set k

-- Such sums over the cells of the block from a on, n of them: those before its end less those before its start.
unfoldable pub between : List ℤ → ℤ → ℕ → ℤ
between sums a n = slice_index_or sums (clip (length sums - 1) (a +ℤ pos n)) (pos 0) -ℤ slice_index_or sums (clip (length sums - 1) a) (pos 0)

-- There are sums, and none is larger than m.
pub record Sized (m : ℕ) (sums : List ℤ) : Type 0 where
  pub some : 0 < length sums
  pub small : (k : ℕ) → k < length sums → unsigned_abs (slice_index_or sums k (pos 0)) ≤ m
