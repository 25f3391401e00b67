-- The sets of cells that p of a record stands on.
use Rattle.std.specs.Prelude.{◌≡◌, ℕ, ◌<◌, Bool, ℤ}
use Rattle.lines.specs.Lines.{Line}
use Rattle.lines.specs.Cells.{double_area}

-- What is answered at a cell's place and double area is whether the cell is in the set.
abbrev pub Takes : Line → (ℕ → ℤ → Bool → Type 0) → (ℕ → Bool) → Type 0
Takes l Answers set = (k : ℕ) (b : Bool) → k < l.len → Answers k (double_area l k) b → b ≡ set k
