use Rattle.lane_search.specs.Gains.{areas_of, helps_of}
use Rattle.lane_search.proofs.Pairs.{Weighing}
use Rattle.lane_search.proofs.weighed.weigh_sums.Given as goal

abbrev pub invariant-loop-k : goal.invariant-loop-k
invariant-loop-k g l = Weighing l.load (areas_of l.totals.firsts.now) (helps_of l.totals.firsts.now) l.sums l.k
