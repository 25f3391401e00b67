use Rattle.std.proofs.Common.{◌≡◌}
use Rattle.lines.specs.Cells.{under, block}
use Rattle.lines.proofs.areas.double_areas.Given as goal

abbrev pub invariant-loop-k : goal.invariant-loop-k
invariant-loop-k g l = l.sum ≡ under (g.L.InfluenceLine.line l.line) (block l.a l.len) l.k
