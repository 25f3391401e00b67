use Rattle.std.proofs.Common.{◌≤◌, ℤ, ◌+ℤ◌, nat_abs, ap, ◌∙◌, mul-le-mul, arith, lit≤, w64, SFits, rules}
use Rattle.std.proofs.lemmas.Int.{to_z-of_z}
use Rattle.loads.proofs.Sizes.{sum_small, fits_by}
use Rattle.lane_search.proofs.RunningSums.{sum_is}
use Rattle.lane_search.proofs.weighed.Weighed.laden_at.Goals as goal

-- A, what stands under the block and p are small enough to be added
parts_fit : (x y z : ℤ) → nat_abs x ≤ 11200000000000 → nat_abs y ≤ 6000000000000000 → nat_abs z ≤ 134400000000000 → SFits w64 (y +ℤ z) × SFits w64 (x +ℤ (y +ℤ z))
parts_fit x y z h k j =
    let s = sum_small y z _ _ k j in
    (fits_by _ _ s (lit≤ tt), fits_by _ _ (sum_small x (y +ℤ z) _ _ h s) (lit≤ tt))

pub overflow_add-result-2 : goal.overflow_add-result-2
overflow_add-result-2 g c =
    let w = c.args.self.now in
    let fa : SFits w64 w.all = search rules in
    let f : SFits w64 c.times.result = search rules in
    let y : SFits w64 c.sum_under.result = search rules in
    let fy = c.ranges.y in
    let p = mul-le-mul w.load.extra_limit c.requires.small in
    let x = simp to_z-of_z at c.times.ensures.small in
    let q = parts_fit c.times.result c.sum_under.result w.all (omega arith) c.sum_under.ensures.small w.few in
    let r = q.0 in
    simp to_z-of_z q.1

pub returns : goal.returns
returns g c =
    let w = c.args.self.now in
    let fa = c.ranges.a in
    let fy = c.ranges.y in
    let fall : SFits w64 w.all = search rules in
    let f : SFits w64 c.times.result = search rules in
    let y : SFits w64 c.sum_under.result = search rules in
    let p = mul-le-mul w.load.extra_limit c.requires.small in
    let x = simp to_z-of_z at c.times.ensures.small in
    let q = parts_fit c.times.result c.sum_under.result w.all (omega arith) c.sum_under.ensures.small w.few in
    let r = q.0 in
    let s = q.1 in
    let v = simp to_z-of_z at c.times.ensures.value in
    let u = ap (λ (z : ℤ). z +ℤ w.all) (simp to_z-of_z at c.sum_under.ensures.value) ∙ w.beside_axle c.args.a in
    simp to_z-of_z (sum_is _ _ _ _ v u)
