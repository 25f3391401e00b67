use Rattle.std.proofs.Common.{◌≡◌, ◌+◌, length, get_or, pos, ◌+ℤ◌, ◌-ℤ◌, ap, ◌∙◌, arith, to_z, of_z, w64, SFits, rules}
use Rattle.std.proofs.lemmas.Int.{ints, to_z-of_z}
use Rattle.lane_search.specs.Readings.{line_read}
use Rattle.lane_search.proofs.Rows.{join_first, join_turn}
use Rattle.lane_search.proofs.windows.join_ahead.Goals as goal

pub loop-at-init : goal.loop-at-init
loop-at-init g c =
    let fa : SFits w64 c.args.from = c.ranges.from in
    let fr : SFits w64 c.at.result = search rules in
    simp to_z-of_z (join_first g.S.Sense.order (line_read c.args.sample.now) c.args.from c.args.tops.now _ _ _
    c.requires.backs (omega (arith, ints)) (simp to_z-of_z at c.new-ahead.ensures.sum ∙ c.at.ensures.value) c.new-ahead.ensures.place)

pub loop-at-preserved : goal.loop-at-preserved
loop-at-preserved g c =
    let fa : SFits w64 c.args.from = c.ranges.from in
    let fq : SFits w64 c.further_of.result = search rules in
    let fs : SFits w64 c.loop-at.ahead.sum = search rules in
    let fr : SFits w64 c.at-in-loop-at.result = search rules in
    let k = c.loop-at.at in
    let n = length c.args.tops.now in
    let fp : SFits w64 (c.args.from +ℤ pos n) = omega (arith, ints) in
    let fw : SFits w64 (c.args.from +ℤ pos n -ℤ pos 1) = omega (arith, ints) in
    let en : to_z w64 n ≡ pos n = omega (arith, ints) in
    let ek : to_z w64 k ≡ pos k = omega (arith, ints) in
    let next : to_z w64 (of_z w64 (to_z w64 (of_z w64 (c.args.from +ℤ pos n -ℤ pos 1 +ℤ pos k)) +ℤ pos 1)) ≡ c.args.from +ℤ pos (n + k) = omega (arith, ints) in
    let fg : SFits w64 (get_or c.loop-at.tops c.loop-at.at (pos 0)) = search rules in
    simp to_z-of_z (join_turn g.S.Sense.order (line_read c.args.sample.now) c.args.from c.loop-at.tops c.loop-at.at _ _ _ _ _ _ _
    (simp to_z-of_z at c.loop-at.invariant) (omega arith) (simp to_z-of_z at c.further_of.ensures) (ap (λ m. c.args.from +ℤ pos (m + k)) (omega arith)) (simp (to_z-of_z, en, ek, next) at c.at-in-loop-at.ensures.value)
    (simp to_z-of_z at c.offer.ensures.sum) (simp (to_z-of_z, en, ek, next) at c.offer.ensures.place))

pub overflow_add-next-in-loop-at : goal.overflow_add-next-in-loop-at
overflow_add-next-in-loop-at g c = omega (arith, ints)

pub returns : goal.returns
returns g c =
    let fa : SFits w64 c.args.from = c.ranges.from in
    λ j lt. simp to_z-of_z at (c.loop-at.invariant.1 j (omega arith))
