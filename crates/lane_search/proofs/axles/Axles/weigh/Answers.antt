use Rattle.std.proofs.Common.{arith}
use Rattle.std.proofs.lemmas.Int.{ints, to_z-of_z}
use Rattle.lane_search.proofs.axles.Axles.weigh.Goals as goal

pub overflow_add-result-2 : goal.overflow_add-result-2
overflow_add-result-2 c = omega (arith, ints)

pub returns : goal.returns
returns c =
    let gy = c.ranges.y in
    let gu = c.ranges.u in
    let gv = c.ranges.v in
    let y = simp to_z-of_z at c.weighed.ensures.value in
    let u = simp to_z-of_z at c.weighed-2.ensures.value in
    let v = simp to_z-of_z at c.weighed-3.ensures.value in
    omega (arith, ints)
