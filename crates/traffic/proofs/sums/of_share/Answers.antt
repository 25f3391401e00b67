use Rattle.std.proofs.Common.{◌*ℤ◌, arith, w64, SFits}
use borrow.Author.Differences.{ints}
use Rattle.std.proofs.lemmas.Int.{to_z-of_z}
use Rattle.lines.proofs.Products.{product_small}
use Rattle.traffic.proofs.sums.of_share.Goals as goal

pub returns : goal.returns
returns c =
    let fp = c.ranges.percent in
    let fe = c.ranges.effect in
    let p = product_small c.args.percent c.args.effect 100 330000000000000 c.requires.part c.requires.small in
    let fr : SFits w64 (c.args.percent *ℤ c.args.effect) = omega (arith, ints) in
    record { value = simp to_z-of_z; small = simp to_z-of_z p }
