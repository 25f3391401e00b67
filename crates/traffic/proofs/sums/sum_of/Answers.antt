use Rattle.std.proofs.Common.{List, map, ℤ, arith}
use borrow.Author.Differences.{ints}
use Rattle.std.proofs.lemmas.List.{at_drop_more, at_drop_all}
use Rattle.loads.specs.Shares.{listed}
use Rattle.loads.specs.Sums.{traffic_sum}
use Rattle.traffic.specs.declared.records.LaneRecord.{LaneRecord}
use Rattle.traffic.specs.Records.{lane_of, blank}
use Rattle.traffic.proofs.sums.sum_of.Goals as goal

pub loop-x-preserved : goal.loop-x-preserved
loop-x-preserved g c =
    let line = g.L.InfluenceLine.line c.args.line.now in
    let t = c.args.set.now.loads in
    let sum : List LaneRecord → ℤ = λ xs. traffic_sum line t (listed c.args.shares.now) (map (lane_of line t) xs) in
    let more = at_drop_more sum c.args.lanes.now c.loop-x.x-index blank c.loop-x-test.true in
    record { value = omega (arith, ints); small = omega (arith, ints) }

pub returns : goal.returns
returns g c =
    let line = g.L.InfluenceLine.line c.args.line.now in
    let t = c.args.set.now.loads in
    let sum : List LaneRecord → ℤ = λ xs. traffic_sum line t (listed c.args.shares.now) (map (lane_of line t) xs) in
    let end = at_drop_all sum c.args.lanes.now c.loop-x.x-index c.loop-x-test.false in
    omega (arith, ints)
