use Rattle.std.proofs.Common.{refl, ◌∙◌, arith, w64, SFits, rules}
use Rattle.std.proofs.lemmas.Int.{ints, to_z-of_z}
use Rattle.keeper.proofs.Steps.{up_first, up_turn, up_last}
use Rattle.lines.specs.Lines.{ordinate_or_zero}
use Rattle.lane_search.specs.Readings.{line_read}
use Rattle.lane_search.proofs.blocks.furthest_place.Goals as goal

pub loop-z-init : goal.loop-z-init
loop-z-init g c =
    let ff = c.ranges.from in
    let fr : SFits w64 c.at.result = search rules in (
      simp to_z-of_z (up_first g.S.Sense.order (ordinate_or_zero (line_read c.args.sample.now)) c.args.from _ _ _ (omega (arith, ints)) (simp to_z-of_z at c.new-best.ensures.place) (simp to_z-of_z at c.new-best.ensures.sum ∙ simp to_z-of_z at c.at.ensures.value)),
      omega (arith, ints),
      omega (arith, ints),
    )

pub loop-z-preserved : goal.loop-z-preserved
loop-z-preserved g c =
    let ff = c.ranges.from in
    let fr : SFits w64 c.at-in-loop-z.result = search rules in
    let i = c.loop-z.invariant in (
      up_turn g.S.Sense.order (ordinate_or_zero (line_read c.args.sample.now)) _ _ _ _ _ _ _ _ i.0 (omega (arith, ints)) (omega (arith, ints)) c.at-in-loop-z.ensures.value (simp to_z-of_z at c.offer.ensures.sum) (simp to_z-of_z at c.offer.ensures.place),
      omega (arith, ints),
      omega (arith, ints),
    )

pub returns : goal.returns
returns g c =
    let ff = c.ranges.from in
    up_last g.S.Sense.order (ordinate_or_zero (line_read c.args.sample.now)) c.args.from _ _ _ _ _ _ (simp to_z-of_z at c.loop-z.invariant.0) (omega (arith, ints)) refl refl
