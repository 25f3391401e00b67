use Rattle.std.proofs.Common.{negsuc, refl, arith, w64, SFits, rules}
use Rattle.std.proofs.lemmas.Int.{ints, to_z-of_z}
use Rattle.keeper.proofs.Steps.{up_turn, up_last}
use Rattle.lane_search.proofs.axles.offer_starts.Goals as goal

pub loop-start-preserved : goal.loop-start-preserved
loop-start-preserved g c =
    let hf = c.ranges.from in
    let ht = c.ranges.to in
    let h : SFits w64 c.effect.result = search rules in
    let i = c.loop-start.invariant in
    record {
      worst = λ f k w. up_turn g.S.Sense.order f (negsuc 15999) _ _ _ _ _ _ _
          (i.worst f k w) (omega (arith, ints)) (omega (arith, ints))
          (k _ _ (omega (arith, ints), omega (arith, ints)) c.effect.ensures)
          (simp to_z-of_z at c.offer.ensures.sum) (simp to_z-of_z at c.offer.ensures.place);
      low = omega (arith, ints);
      high = omega (arith, ints);
    }

pub returns : goal.returns
returns g c = λ f k w.
    let hf = c.ranges.from in
    let ht = c.ranges.to in
    let i = simp to_z-of_z at c.loop-start.invariant.worst in
    up_last g.S.Sense.order f (negsuc 15999) _ c.args.to _ _ _ _ (i f k w) (omega (arith, ints)) refl refl
