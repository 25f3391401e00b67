use Rattle.std.proofs.Common.{◌-ℤ◌, mul-le-mul, arith, lit≤, w64, SFits, rules}
use Rattle.std.proofs.lemmas.Int.{to_z-of_z}
use Rattle.loads.proofs.Sizes.{fits_by}
use Rattle.lane_search.proofs.RunningSums.{less_is, less_small}
use Rattle.lane_search.proofs.weighed.weighed_sum.Goals as goal

fits : (c : goal.After-times-2) → SFits w64 (c.times.result -ℤ c.times-2.result)
fits c =
    let f : SFits w64 c.args.total.area = search rules in
    let h : SFits w64 c.args.total.help = search rules in
    let p = mul-le-mul c.args.load.rate_limit c.requires.area in
    let q = mul-le-mul c.args.load.lane_limit c.requires.help in
    let x = simp to_z-of_z at c.times.ensures.small in
    let y = simp to_z-of_z at c.times-2.ensures.small in
    fits_by _ _ (less_small c.times.result c.times-2.result 2560000000000000 134400000000000 (omega arith) (omega arith)) (lit≤ tt)

pub returns : goal.returns
returns c =
    let f : SFits w64 c.args.total.area = search rules in
    let h : SFits w64 c.args.total.help = search rules in
    let x : SFits w64 c.times.result = search rules in
    let y : SFits w64 c.times-2.result = search rules in
    let s = fits c in
    simp to_z-of_z (less_is _ _ _ _ (simp to_z-of_z at c.times.ensures.value) (simp to_z-of_z at c.times-2.ensures.value))
