use Rattle.lane_search.specs.Readings.{line_read}
use Rattle.lane_search.proofs.Rows.{Joining}
use Rattle.lane_search.proofs.windows.join_ahead.Given as goal

abbrev pub invariant-loop-at : goal.invariant-loop-at
invariant-loop-at g l = Joining g.S.Sense.beyond (line_read l.sample) l.from l.tops l.at l.ahead.sum l.ahead.place
