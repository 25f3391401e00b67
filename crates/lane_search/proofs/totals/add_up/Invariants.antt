use Rattle.lane_search.specs.Readings.{line_read}
use Rattle.lane_search.proofs.RunningSums.{Adding}
use Rattle.lane_search.proofs.totals.add_up.Given as goal

abbrev pub invariant-loop-k : goal.invariant-loop-k
invariant-loop-k g l = Adding g.S.Sense.beyond (line_read l.sample) l.totals l.k l.sum
