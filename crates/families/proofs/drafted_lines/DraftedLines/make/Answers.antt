use Rattle.lines.proofs.Asking.{no_first_no}
use Rattle.families.specs.Drafts.{questions}
use Rattle.families.proofs.drafted_lines.DraftedLines.make.Goals as goal

pub returns-in-Err-clause-right : goal.returns-in-Err-clause-right
returns-in-Err-clause-right g c = λ y. absurd (no_first_no (questions g.T.Head.taken g.T.Head.draft c.args.heads.now c.args.rows.now) _ _ y c.in-Err.ensures.told)
