use Rattle.std.proofs.Common.{arith}
use borrow.Author.Differences.{ints}
use Rattle.families.specs.DraftLimits.{length_lines}
use Rattle.families.proofs.drafted_lines.DraftedLinesFamily.count.Goals as goal

pub returns-clause-value : goal.returns-clause-value
returns-clause-value g c =
    let e = length_lines g.T.Head.taken g.T.Head.draft c.args.self.now.heads.now c.args.self.now.rows.now in
    omega (arith, ints)
