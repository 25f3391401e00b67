use Rattle.std.proofs.Common.{rules}
use Rattle.families.specs.Drafts.{Tells, questions}
use Rattle.families.proofs.Asked.{told_once}
use Rattle.families.proofs.drafted_lines.DraftedLines.check.Goals as goal

pub returns-clause-only : goal.returns-clause-only
returns-clause-only g c =
    let qs = questions g.T.Head.taken g.T.Head.draft c.args.heads.now c.args.rows.now in
    let told : Tells qs c.ask.result = search rules in
    λ a t. told_once qs a c.ask.result t told
