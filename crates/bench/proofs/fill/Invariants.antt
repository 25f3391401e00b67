use Rattle.std.proofs.Common.{◌<◌}
use Rattle.bench.proofs.fill.Given as goal

abbrev pub invariant-loop-number : goal.invariant-loop-number
invariant-loop-number l = l.seed < 500009
