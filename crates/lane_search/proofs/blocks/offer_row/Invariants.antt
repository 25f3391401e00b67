use Rattle.std.proofs.Common.{pos, ◌+ℤ◌}
use Rattle.lane_search.specs.Readings.{line_read}
use Rattle.lane_search.specs.Blocks.{Begun}
use Rattle.lane_search.proofs.blocks.offer_row.Given as goal

abbrev pub invariant-loop-at : goal.invariant-loop-at
invariant-loop-at g l = Begun g.S.Sense.beyond (line_read l.weighed.sample.now) l.weighed.load (l.from +ℤ pos l.at) l.worst.sum l.worst.place
