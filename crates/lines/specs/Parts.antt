-- The line that a part of two joined families names; none stands in neither.
use Rattle.std.specs.Prelude.{List, Option, Some, None}
use Rattle.lines.specs.Lines.{Line, no_line, line_no}
use Rattle.lines.specs.declared.parts.Part.{Part}
use Rattle.lines.specs.declared.parts.Part.TheVariants.{First, Second}

abbrev pub line_of : List Line → List Line → Option Part → Line
line_of xs ys (Some (First i)) = line_no xs i
line_of xs ys (Some (Second i)) = line_no ys i
line_of xs ys None = no_line
