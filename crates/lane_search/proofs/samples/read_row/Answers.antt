use Rattle.std.proofs.Common.{◌≡◌, pos, ap, ◌∙◌, arith, w32, w64, SFits, to_z, rules}
use borrow.Author.Differences.{ints}
use Rattle.std.proofs.lemmas.Int.{to_z-of_z}
use Rattle.lines.specs.Lines.{ordinate_or_zero}
use Rattle.lane_search.proofs.Sampled.{take_turn}
use Rattle.lane_search.proofs.samples.read_row.Goals as goal

pub loop-x-init : goal.loop-x-init
loop-x-init g c = record { values = λ j lt. absurd (omega arith); small = λ j lt. absurd (omega arith) }

pub loop-x-preserved : goal.loop-x-preserved
loop-x-preserved g c =
    let l = g.L.InfluenceLine.line c.args.line.now in
    let small = c.ordinate.ensures.small in
    let fy : SFits w64 c.ordinate.result = search rules in
    let gy : SFits w32 c.ordinate.result = omega (arith, ints) in
    let e : to_z w64 c.loop-x.x ≡ pos c.loop-x.x = omega (arith, ints) in
    let value : c.ordinate.result ≡ ordinate_or_zero l (pos c.loop-x.x) = c.ordinate.ensures.value ∙ ap (ordinate_or_zero l) e in
    simp to_z-of_z (take_turn l _ c.loop-x.x c.ordinate.result c.loop-x.invariant value small (omega arith))

pub returns : goal.returns
returns g c =
    let t = c.loop-x.invariant in
    record { values = λ k lt. t.values k (omega arith); small = λ k lt. t.small k (omega arith) }
