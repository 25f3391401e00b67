use Rattle.std.proofs.Common.{◌≡◌, drop}
use Rattle.families.specs.Own.{start}
use Rattle.families.proofs.Asked.{Led}
use Rattle.families.proofs.check.ask.Given as goal

abbrev pub invariant-loop-i : goal.invariant-loop-i
invariant-loop-i g l = (l.rest ≡ drop (start g.T.Head.taken l.heads l.i) l.rows) × Led g.T.Head.taken g.T.Head.draft l.heads l.rows l.i
