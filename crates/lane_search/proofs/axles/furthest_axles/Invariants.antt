use Rattle.std.proofs.Common.{◌+◌}
use Rattle.lane_search.specs.Groups.{UpTo}
use Rattle.lane_search.specs.Places.{Reaches}
use Rattle.lane_search.specs.Readings.{line_read}
use Rattle.lane_search.proofs.axles.furthest_axles.Given as goal

abbrev pub invariant-loop-group : goal.invariant-loop-group
invariant-loop-group g l =
    Reaches g.S.Sense.beyond (line_read l.sample) l.set.loads (UpTo (l.group-index + 1)) l.best.sum l.best.place
