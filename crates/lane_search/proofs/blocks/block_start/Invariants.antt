use Rattle.std.proofs.Common.{◌*◌, min, pos, ◌-ℤ◌}
use Rattle.lane_search.specs.Readings.{line_read}
use Rattle.lane_search.specs.Blocks.{Begun}
use Rattle.lane_search.proofs.blocks.block_start.Given as goal

abbrev pub invariant-loop-row : goal.invariant-loop-row
invariant-loop-row g l = Begun g.S.Sense.beyond (line_read l.weighed.sample.now) l.weighed.load (pos (min (l.row * l.length) l.starts) -ℤ pos 15999) l.worst.sum l.worst.place
