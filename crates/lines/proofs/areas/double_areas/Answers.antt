use Rattle.std.proofs.Common.{◌≡◌, ℕ, ◌<◌, ◌≤◌, pos, ◌+ℤ◌, nat_abs, sym, ap, ◌∙◌, arith, w64, SFits, rules}
use borrow.Author.Differences.{ints}
use Rattle.std.proofs.lemmas.Int.{to_z-of_z, to_z_pos}
use Rattle.lines.specs.Cells.{under, block, clip}
use Rattle.lines.proofs.UnderCells.{block_none, block_more, block_all, cell_at, under_small, clip_high, clip_mono, block_small}
use Rattle.lines.proofs.areas.double_areas.Goals as goal

pub loop-k-init : goal.loop-k-init
loop-k-init g c =
    let fa = c.ranges.a in
    let line = g.L.InfluenceLine.line c.args.line.now in
    let fn : SFits w64 c.length-n.result = search rules in
    let e : c.clipped-from.result ≡ clip (nat_abs c.length-n.result) c.args.a = grind (arith, to_z-of_z) in
    simp to_z-of_z (block_none line c.args.a c.args.len _ ∙ ap (under line (block c.args.a c.args.len)) (sym e))

pub overflow_add-sum : goal.overflow_add-sum
overflow_add-sum g c =
    let fa = c.ranges.a in
    let fn : SFits w64 c.length-n.result = search rules in
    let m = g.L.InfluenceLine.mild c.args.line.now in
    let i = simp (to_z-of_z, c.loop-k.sum-is) at c.loop-k.invariant in
    let e = simp to_z-of_z at c.clipped_end-to.ensures in
    let h = clip_high (nat_abs c.length-n.result) (c.args.a +ℤ pos c.args.len) in
    let few : c.loop-k.k ≤ 100000 = omega arith in
    let b = under_small _ m (block c.args.a c.args.len) c.loop-k.k few in
    omega (arith, ints)

pub loop-k-preserved : goal.loop-k-preserved
loop-k-preserved g c =
    let fa = c.ranges.a in
    let fn : SFits w64 c.length-n.result = search rules in
    let fr : SFits w64 c.double_area-sum.result = search rules in
    let line = g.L.InfluenceLine.line c.args.line.now in
    let m = g.L.InfluenceLine.mild c.args.line.now in
    let n : nat_abs c.length-n.result ≡ line.len = ap nat_abs (c.length-n.ensures.value) in
    let i = simp (to_z-of_z, c.loop-k.sum-is) at c.loop-k.invariant in
    let from = simp to_z-of_z at c.clipped-from.ensures in
    let to = simp to_z-of_z at c.clipped_end-to.ensures in
    let h = clip_high (nat_abs c.length-n.result) (c.args.a +ℤ pos c.args.len) in
    let within : c.loop-k.k < line.len = omega arith in
    let few : c.loop-k.k ≤ 100000 = omega arith in
    let b = under_small line m (block c.args.a c.args.len) c.loop-k.k few in
    let more = block_more line c.args.a c.args.len (nat_abs c.length-n.result) c.loop-k.k (omega arith) (omega arith) in
    let k = to_z_pos w64 c.loop-k.k (omega arith) in
    let v = (simp (to_z-of_z, k) at c.double_area-sum.ensures.value) ∙ cell_at line c.loop-k.k within in
    let fs : SFits w64 (c.loop-k.sum +ℤ c.double_area-sum.result) = omega (arith, ints) in
    simp (to_z-of_z, c.loop-k.sum-is) (omega (arith, ints))

pub returns : goal.returns
returns g c =
    let fa = c.ranges.a in
    let fn : SFits w64 c.length-n.result = search rules in
    let line = g.L.InfluenceLine.line c.args.line.now in
    let m = g.L.InfluenceLine.mild c.args.line.now in
    let n : nat_abs c.length-n.result ≡ line.len = ap nat_abs (c.length-n.ensures.value) in
    let i = simp (to_z-of_z, c.loop-k.sum-is) at c.loop-k.invariant in
    let from = simp to_z-of_z at c.clipped-from.ensures in
    let to' = simp to_z-of_z at c.clipped_end-to.ensures in
    let to = to' ∙ ap (λ (w : ℕ). clip w (c.args.a +ℤ pos c.args.len)) n in
    let order = clip_mono (nat_abs c.length-n.result) c.args.a (c.args.a +ℤ pos c.args.len) (omega (arith, ints)) in
    let end = c.loop-k.auto.k-end (omega arith) in
    let k : c.loop-k.k ≡ clip line.len (c.args.a +ℤ pos c.args.len) = omega arith in
    let all = block_all line c.args.a c.args.len in
    let b = under_small line m (block c.args.a c.args.len) line.len m.len_high in
    let v = c.loop-k.sum-is ∙ i ∙ ap (under line (block c.args.a c.args.len)) k ∙ sym all in
    let n = block_small line m c.args.a c.args.len in
    record { value = v; small = omega (arith, ints); short = omega (arith, ints) }
