use Rattle.std.proofs.Common.{arith, w64, SFits, rules}
use borrow.Author.Differences.{ints}
use Rattle.std.proofs.lemmas.Int.{to_z-of_z}
use Rattle.traffic.specs.Records.{beside_train}
use Rattle.traffic.proofs.effects.of_train.Goals as goal

pub overflow_add-result : goal.overflow_add-result
overflow_add-result g c =
    let fx : SFits w64 c.of_block.result = search rules in
    let fy : SFits w64 c.of_lane_load.result = search rules in
    simp to_z-of_z (omega (arith, ints))

pub returns-clause-value : goal.returns-clause-value
returns-clause-value g c =
    let line = g.L.InfluenceLine.line c.args.line.now in
    let v = c.of_lane_load.ensures.value (beside_train line c.args.set.now.loads.train.length c.args.sign c.args.a) (λ k b lt p. search rules) in
    search rules
