use Rattle.std.proofs.Common.{◌≡◌, ◌<◌, length, get_or, pos, ◌+ℤ◌, refl, arith, w64, SFits, to_z, rules}
use Rattle.std.proofs.lemmas.Int.{ints, to_z-of_z}
use Rattle.lane_search.specs.Readings.{line_read}
use Rattle.lane_search.proofs.Sampled.{read_mild}
use Rattle.lane_search.proofs.Rows.{peak_small}
use Rattle.lane_search.proofs.Pairs.{row_turn}
use Rattle.lane_search.proofs.blocks.offer_row.Goals as goal

pub laden_at-requires : goal.laden_at-requires
laden_at-requires g c =
    let lt : c.loop-at.at < length c.args.tops.now = omega arith in
    let h : SFits w64 (get_or c.args.tops.now c.loop-at.at (pos 0)) = search rules in
    let low = c.requires.low in
    let high = c.requires.high in
    record {
      near = record { low = omega (arith, ints); high = omega (arith, ints) };
      small = simp to_z-of_z (peak_small _ _ _ _ (read_mild c.args.weighed.now.sample.now) (c.requires.tops c.loop-at.at lt));
    }

pub loop-at-preserved : goal.loop-at-preserved
loop-at-preserved g c =
    let fa : SFits w64 c.args.from = c.ranges.from in
    let k = c.loop-at.at in
    let lt : k < length c.args.tops.now = omega arith in
    let low = c.requires.low in
    let high = c.requires.high in
    let fl : SFits w64 c.laden_at.result = search rules in
    let h : SFits w64 (get_or c.args.tops.now k (pos 0)) = search rules in
    let ek : to_z w64 k ≡ pos k = omega (arith, ints) in
    let fs : SFits w64 (c.args.from +ℤ pos k) = omega (arith, ints) in
    simp to_z-of_z (row_turn g.S.Sense.order (line_read c.args.weighed.now.sample.now) c.args.weighed.now.load c.args.tops.now c.args.from _ _ _ _ _ _ k
    (simp to_z-of_z at c.loop-at.invariant) c.requires.tops lt low refl (simp (to_z-of_z, ek) at c.laden_at.ensures) (simp to_z-of_z at c.offer.ensures.sum) (simp (to_z-of_z, ek) at c.offer.ensures.place))

pub returns : goal.returns
returns g c =
    let fa : SFits w64 c.args.from = c.ranges.from in
    let e : c.loop-at.at ≡ length c.args.tops.now = omega arith in
    rw (← e) (simp to_z-of_z at c.loop-at.invariant)
