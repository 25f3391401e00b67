use Rattle.std.proofs.Common.{◌≡◌, ◌+◌, ◌-◌, length, nat_abs, arith, w64, SFits, to_z, of_z, rules}
use borrow.Author.Differences.{ints}
use Rattle.std.proofs.lemmas.Int.{to_z-of_z}
use Rattle.lane_search.proofs.Sampled.{row_small, row_alike}
use Rattle.lane_search.proofs.samples.Sample.of.Goals as goal

pub returns : goal.returns
returns g c =
    let fn : SFits w64 c.length-length.result = search rules in
    let len = c.length-length.ensures.value in
    let long : length c.read_row.new.row ≡ nat_abs c.length-length.result + 1 = search rules in
    simp to_z-of_z (row_alike (g.L.InfluenceLine.line c.args.line.now) c.read_row.new.row _ (nat_abs c.length-length.result) long (omega (arith, ints)) c.read_row.ensures.values)

pub invariant_of-result : goal.invariant_of-result
invariant_of-result g c =
    let fn : SFits w64 c.length-length.result = search rules in
    record { short = simp to_z-of_z c.length-length.ensures.small; small = row_small _ (nat_abs (to_z w64 (of_z w64 c.length-length.result)) + 1 - 0) 100001 c.read_row.ensures.small }
