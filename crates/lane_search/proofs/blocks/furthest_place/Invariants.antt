use Rattle.std.proofs.Common.{◌+◌, pos, ◌+ℤ◌, ◌≤ℤ◌}
use Rattle.keeper.specs.Worst.{Worst, Between}
use Rattle.lines.specs.Lines.{ordinate_or_zero}
use Rattle.lane_search.specs.Readings.{line_read}
use Rattle.lane_search.proofs.blocks.furthest_place.Given as goal

abbrev pub invariant-loop-z : goal.invariant-loop-z
invariant-loop-z g l =
    Worst g.S.Sense.beyond (ordinate_or_zero (line_read l.sample)) (Between l.from l.z) l.best.sum l.best.place
    × ((l.from +ℤ pos 1) ≤ℤ l.z)
    × (l.z ≤ℤ (l.from +ℤ pos (l.len + 1)))
