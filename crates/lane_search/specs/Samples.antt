-- A line by its ordinates at 0 .. len.
use Rattle.std.specs.Prelude.{◌-◌, List, length, ℤ, pos, slice_index_or}
use Rattle.lines.specs.Lines.{Line}

-- The line that has these ordinates. The scale plays no part in a lane effect.
abbrev pub sampled : List ℤ → Line
sampled ys = record { len = length ys - 1; scale = 1; ordinate = λ x. slice_index_or ys x (pos 0) }
