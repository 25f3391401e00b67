-- What a sample stands for.
use Rattle.std.specs.Prelude.{◌≡◌, ◌+◌, take, ℤ}
use Rattle.lines.specs.Lines.{Line, ordinate_or_zero}
use Rattle.lane_search.specs.declared.samples.Sample.{Sample}
use Rattle.lane_search.specs.Samples.{sampled}

-- The line that was read.
abbrev pub line_read : Sample → Line
line_read s = sampled (take (s.length + 1) s.ordinates)

-- Two lines of one length and with the same ordinates.
pub record Alike (l m : Line) : Type 0 where
  pub len : l.len ≡ m.len
  pub at : (x : ℤ) → ordinate_or_zero l x ≡ ordinate_or_zero m x
