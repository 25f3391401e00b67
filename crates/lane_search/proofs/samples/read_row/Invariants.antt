use Rattle.lane_search.proofs.Sampled.{Taken}
use Rattle.lane_search.proofs.samples.read_row.Given as goal

abbrev pub invariant-loop-x : goal.invariant-loop-x
invariant-loop-x g l = Taken (g.L.InfluenceLine.line l.line) l.row l.x
