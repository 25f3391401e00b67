use Rattle.std.proofs.Common.{◌≡◌, ◌<◌, ◌^◌, ◌+◌, ◌-◌, length, get_or, take, drop, None, ap, ◌∙◌, subst, arith, rules}
use Rattle.std.proofs.lemmas.Int.{to_z-of_z}
use Rattle.std.proofs.lemmas.List.Sums.{sum_by_more_le}
use Rattle.lines.specs.Lines.{no_line, line_no}
use Rattle.families.specs.Drafts.{Found, drafts, lines_of}
use Rattle.families.specs.Own.{own}
use Rattle.families.specs.DraftLimits.{length_lines, found_each, line_at}
use Rattle.families.proofs.Finding.{unplaced}
use Rattle.families.proofs.drafted_lines.DraftedLines.find.Goals as goal

pub returns-in_err-i-clause-absent : goal.returns-in_err-i-clause-absent
returns-in_err-i-clause-absent g c =
    let fl = c.ranges.line in
    let hs = c.args.self.now.heads.now in
    let ls = lines_of (drafts g.T.Head.taken g.T.Head.draft hs c.args.self.now.rows.now) in
    let e : line_no ls c.args.line ≡ no_line = unplaced ls _ c.args.line (length_lines g.T.Head.taken g.T.Head.draft hs c.args.self.now.rows.now) (simp to_z-of_z at c.in_err-i.ensures) in
    search rules

pub overflow_add-result : goal.overflow_add-result
overflow_add-result g c =
    let len : length c.args.self.now.rows.now < 2 ^ 64 = search rules in
    let p = sum_by_more_le g.T.Head.taken c.args.self.now.heads.now c.in_ok-i.i c.index-self-i.result c.in_ok-i.ensures.1 in
    omega (arith, c.args.self.now.right.0)

pub slice_bounds-result-end : goal.slice_bounds-result-end
slice_bounds-result-end g c =
    let p = sum_by_more_le g.T.Head.taken c.args.self.now.heads.now c.in_ok-i.i c.index-self-i.result c.in_ok-i.ensures.1 in
    omega (arith, c.args.self.now.right.0)

pub returns : goal.returns
returns g c =
    let fl = c.ranges.line in
    let hs = c.args.self.now.heads.now in
    let rs = c.args.self.now.rows.now in
    let i = c.in_ok-i.i in
    let d = c.index-self-i.result in
    let h = get_or hs i d in
    let n : c.rows_of-at.result + c.taken.result - c.rows_of-at.result ≡ g.T.Head.taken h = omega (arith, c.taken.ensures) in
    let here : own g.T.Head.taken hs rs i d ≡ take (c.rows_of-at.result + c.taken.result - c.rows_of-at.result) (drop c.rows_of-at.result rs) = cc in
    let there = c.in_ok-i.ensures.1 in
    let line = simp to_z-of_z at c.in_ok-i.ensures.0 in
    record {
      found = subst (λ w. Found (g.T.Head.draft h w) None) here (found_each g.T.Head.taken g.T.Head.draft hs rs 0 d c.args.self.now.right.1 i there);
      drafted = ap (line_no (lines_of (drafts g.T.Head.taken g.T.Head.draft hs rs))) line ∙ line_at g.T.Head.taken g.T.Head.draft hs rs i d there ∙ ap (λ w. (g.T.Head.draft h w).line) here;
      absent = search rules;
    }
