use Rattle.std.proofs.Common.{◌≡◌, length, take, drop, refl, ap, ◌∙◌, inr, arith, length-drop}
use Rattle.std.proofs.lemmas.List.{drop-drop}
use Rattle.std.proofs.lemmas.List.Sums.{sum_by_more_le}
use Rattle.families.specs.Own.{start}
use Rattle.families.proofs.Asked.{OwnOf, start_more, led_more, led_no}
use Rattle.families.proofs.check.ask.Goals as goal

pub split_at-requires : goal.split_at-requires
split_at-requires g c =
    let w = c.if-not-adds_up.ensures.0 refl in
    let p = sum_by_more_le g.T.Head.taken c.args.heads.now c.loop-i.i c.index-heads-i.result c.loop-i-test.true in
    let h = ap g.T.Head.taken c.index-heads-i.is in
    let n = ap length c.loop-i.invariant.0 ∙ length-drop (start g.T.Head.taken c.args.heads.now c.loop-i.i) c.args.rows.now in
    omega arith

pub returns-in-Some : goal.returns-in-Some
returns-in-Some g c =
    let own : c.split_at.result.0.now ≡ take (g.T.Head.taken c.index-heads-i.result) (drop (start g.T.Head.taken c.args.heads.now c.loop-i.i) c.args.rows.now) = cc in
    let o : OwnOf g.T.Head.taken c.args.heads.now c.args.rows.now c.loop-i.i c.index-heads-i.result c.split_at.result.0.now = record { there = c.loop-i-test.true; head = c.index-heads-i.is; rows = own } in
    inr (c.if-not-adds_up.ensures.0 refl, led_no _ _ _ _ _ _ _ _ o c.in-Some.ensures c.loop-i.invariant.1)

pub loop-i-preserved : goal.loop-i-preserved
loop-i-preserved g c =
    let own : c.split_at.result.0.now ≡ take (g.T.Head.taken c.index-heads-i.result) (drop (start g.T.Head.taken c.args.heads.now c.loop-i.i) c.args.rows.now) = cc in
    let o : OwnOf g.T.Head.taken c.args.heads.now c.args.rows.now c.loop-i.i c.index-heads-i.result c.split_at.result.0.now = record { there = c.loop-i-test.true; head = c.index-heads-i.is; rows = own } in
    let p = start_more g.T.Head.taken c.args.heads.now c.loop-i.i c.index-heads-i.result c.loop-i-test.true c.index-heads-i.is in
    let d = drop-drop (g.T.Head.taken c.index-heads-i.result) (start g.T.Head.taken c.args.heads.now c.loop-i.i) c.args.rows.now in
    (cc, led_more _ _ _ _ _ _ _ o c.in_default.ensures c.loop-i.invariant.1)
