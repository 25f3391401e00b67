use Rattle.std.proofs.Common.{◌≡◌, ◌+◌, ◌<◌}
use Rattle.families.specs.Runs.{run_size, climb}
use Rattle.families.specs.Own.{start}
use Rattle.families.proofs.run_head.ordinate_at.Given as goal

abbrev pub invariant-loop-run : goal.invariant-loop-run
invariant-loop-run l = (l.y ≡ climb l.runs (start run_size l.runs l.run-index)) × (start run_size l.runs l.run-index + l.left ≡ l.x) × (0 < l.run-index → 0 < l.left)
