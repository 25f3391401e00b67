use Rattle.std.proofs.Common.{◌^◌, ◌*ℤ◌, arith, w64, SFits, rules}
use borrow.Author.Differences.{ints}
use Rattle.std.proofs.lemmas.Int.{to_z-of_z}
use Rattle.lines.proofs.Products.{product_small}
use Rattle.families.proofs.ordinates.times.Goals as goal

pub returns : goal.returns
returns c =
    let f = c.ranges.y in
    let fa : SFits w64 c.from.result = search rules in
    let fy : SFits w64 c.from-2.result = search rules in
    let y = simp to_z-of_z at c.from-2.ensures in
    let p = product_small c.from.result c.from-2.result c.args.a (2 ^ 31) (omega (arith, ints)) (omega (arith, ints)) in
    let fp : SFits w64 (c.from.result *ℤ c.from-2.result) = omega (arith, ints) in
    record { value = simp to_z-of_z (cc); small = simp to_z-of_z p }
