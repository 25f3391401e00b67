use Rattle.lane_search.specs.Readings.{line_read}
use Rattle.lane_search.proofs.Rows.{Filling}
use Rattle.lane_search.proofs.windows.fill_back.Given as goal

abbrev pub invariant-loop-at : goal.invariant-loop-at
invariant-loop-at g l = Filling g.S.Sense.beyond (line_read l.sample) l.from l.tops l.at l.best.sum l.best.place
