use Rattle.std.proofs.Common.{◌≡◌, ℕ, ◌<◌, ◌≤◌, get_or}
use Rattle.families.specs.Runs.{run_size, no_run}
use Rattle.families.specs.Own.{start}
use Rattle.families.proofs.run_head.is_line.Given as goal

abbrev pub invariant-loop-run : goal.invariant-loop-run
invariant-loop-run l = (l.end ≡ start run_size l.runs l.run-index) × (l.end ≤ 100000) × ((k : ℕ) → k < l.run-index → 1 ≤ run_size (get_or l.runs k no_run))
