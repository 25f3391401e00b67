use Rattle.std.proofs.Common.{◌≡◌, ◌*◌, ◌≤◌}
use Rattle.families.specs.Own.{start}
use Rattle.families.proofs.check.rows_of.Given as goal

abbrev pub invariant-loop-head : goal.invariant-loop-head
invariant-loop-head g l = (l.sum ≡ start g.T.Head.taken l.heads l.head-index) × (l.sum ≤ l.head-index * 4294967296)
