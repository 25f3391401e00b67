use Rattle.std.proofs.Common.{◌≡◌, ◌-◌, pos, ◌+ℤ◌, refl, ◌∙◌, to_z, arith, w64, SFits, rules}
use Rattle.std.proofs.lemmas.Int.{ints, to_z-of_z}
use Rattle.lane_search.specs.Readings.{line_read}
use Rattle.lane_search.proofs.Rows.{fill_first, fill_turn}
use Rattle.lane_search.proofs.windows.fill_back.Goals as goal

pub loop-at-init : goal.loop-at-init
loop-at-init g c =
    let fa : SFits w64 c.args.from = c.ranges.from in
    let fr : SFits w64 c.at.result = search rules in
    let fs : SFits w64 c.new-best.result.sum = search rules in
    simp to_z-of_z (fill_first g.S.Sense.order (line_read c.args.sample.now) c.args.from c.args.tops.now _ _ _
    (omega (arith, ints)) (simp to_z-of_z at c.new-best.ensures.sum ∙ c.at.ensures.value) c.new-best.ensures.place)

pub loop-at-preserved : goal.loop-at-preserved
loop-at-preserved g c =
    let fa : SFits w64 c.args.from = c.ranges.from in
    let fs : SFits w64 c.offer.new.self.sum = search rules in
    let fr : SFits w64 c.at-in-loop-at.result = search rules in
    let k = c.loop-at.at - 1 in
    let ek : to_z w64 k ≡ pos k = omega (arith, ints) in
    let fp : SFits w64 (c.args.from +ℤ pos k) = omega (arith, ints) in
    simp to_z-of_z (fill_turn g.S.Sense.order (line_read c.args.sample.now) c.args.from c.loop-at.tops c.loop-at.at (c.loop-at.at - 1) _ _ _ _ _ _
    (simp to_z-of_z at c.loop-at.invariant) (omega arith) refl (simp (to_z-of_z, ek) at c.at-in-loop-at.ensures.value)
    (simp to_z-of_z at c.offer.ensures.sum) (simp (to_z-of_z, ek) at c.offer.ensures.place))

pub returns : goal.returns
returns g c =
    let fa : SFits w64 c.args.from = c.ranges.from in
    λ j le lt. simp to_z-of_z at (c.loop-at.invariant.1 j (omega arith) lt)
