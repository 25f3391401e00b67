use Rattle.std.proofs.Common.{w64, SFits, rules}
use Rattle.std.proofs.lemmas.Int.{to_z-of_z}
use Rattle.lane_search.specs.Readings.{line_read}
use Rattle.lane_search.proofs.Pairs.{with_place}
use Rattle.lane_search.proofs.blocks.furthest_block.Goals as goal

pub returns : goal.returns
returns g c =
    let fs : SFits w64 c.block_start-best.result.sum = search rules in
    let fa : SFits w64 c.block_start-best.result.place = search rules in
    let fz : SFits w64 c.furthest_place-axle.result.place = search rules in
    rw (simp to_z-of_z at c.new.ensures.sum) (with_place g.S.Sense.order (line_read c.args.weighed.now.sample.now) c.args.weighed.now.load _ _ _ _ _ _ c.block_start-best.ensures (simp to_z-of_z at c.furthest_place-axle.ensures) (simp to_z-of_z at c.new.ensures.place))
