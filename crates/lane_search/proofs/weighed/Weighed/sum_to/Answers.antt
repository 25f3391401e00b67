use Rattle.std.proofs.Common.{◌≡◌, ℕ, ◌-◌, length, get_or, ℤ, pos, ◌-ℤ◌, negsuc, nat_abs, ap, arith, w64, SFits, to_z, of_z, rules}
use Rattle.std.specs.Int.{int_min, int_max}
use Rattle.std.proofs.lemmas.Int.{ints, clamps, to_z-of_z}
use Rattle.lines.specs.Cells.{clip}
use Rattle.lane_search.proofs.weighed.Weighed.sum_to.Goals as goal

-- a place that is held between 0 and m
clip_is : (m : ℕ) (x y : ℤ) → y ≡ int_max (pos 0) (int_min x (pos m)) → nat_abs y ≡ clip m x
clip_is m (pos x) y e = omega (arith, ints, clamps)
clip_is m (negsuc x) y e = omega (arith, ints, clamps)

pub returns-clause-value : goal.returns-clause-value
returns-clause-value g c =
    let sums = c.args.self.now.sums.now in
    let fx = c.ranges.x in
    let f : SFits w64 c.clamp.result = search rules in
    let some = c.args.self.now.sized.some in
    let last : to_z w64 (of_z w64 (to_z w64 (length sums) -ℤ pos 1)) ≡ pos (length sums - 1) = omega (arith, ints) in
    let e = clip_is (length sums - 1) c.args.x c.clamp.result (rw last at (simp to_z-of_z at c.clamp.ensures.value)) in
    let at : get_or sums (nat_abs c.clamp.result) (pos 0) ≡ get_or sums (clip (length sums - 1) c.args.x) (pos 0) = ap (λ k. get_or sums k (pos 0)) e in
    let h : SFits w64 (get_or sums (nat_abs c.clamp.result) (pos 0)) = search rules in
    simp to_z-of_z at
