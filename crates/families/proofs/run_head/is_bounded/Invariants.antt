use Rattle.std.proofs.Common.{◌≡◌, ℕ, ◌≤◌, nat_abs}
use Rattle.families.specs.Runs.{run_size, climb}
use Rattle.families.specs.Own.{start}
use Rattle.families.proofs.run_head.is_bounded.Given as goal

abbrev pub invariant-loop-run : goal.invariant-loop-run
invariant-loop-run l = (l.y ≡ climb l.runs (start run_size l.runs l.run-index)) × ((x : ℕ) → x ≤ start run_size l.runs l.run-index → nat_abs (climb l.runs x) ≤ 1000000)
