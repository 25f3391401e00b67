use Rattle.std.proofs.Common.{◌≡◌, ◌*◌, ◌≤◌, List, map, drop, ℤ, ◌+ℤ◌, nat_abs}
use Rattle.loads.specs.Shares.{listed}
use Rattle.loads.specs.Sums.{traffic_sum}
use Rattle.traffic.specs.declared.records.LaneRecord.{LaneRecord}
use Rattle.traffic.specs.Records.{lane_of}
use Rattle.traffic.proofs.sums.sum_of.Given as goal

abbrev pub invariant-loop-x : goal.invariant-loop-x
invariant-loop-x g l =
    let line = g.L.InfluenceLine.line l.line in
    let sum : List LaneRecord → ℤ = λ xs. traffic_sum line l.set.loads (listed l.shares) (map (lane_of line l.set.loads) xs) in
    record {
      value : sum l.lanes ≡ l.sum +ℤ sum (drop l.x-index l.lanes);
      small : nat_abs l.sum ≤ l.x-index * 33000000000000000;
    }
