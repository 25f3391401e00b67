use Rattle.std.proofs.Common.{◌^◌, ◌≤◌, ℤ, ◌*ℤ◌, nat_abs, sym, subst, le_trans, arith, lit≤, w64, SFits, rules}
use mir.Syntax.{w128}
use borrow.Author.Differences.{ints}
use Rattle.std.proofs.lemmas.Int.{to_z-of_z}
use Rattle.lines.proofs.Products.{product_small}
use Rattle.loads.proofs.overloads.Unit.times.Goals as goal

pub returns : goal.returns
returns c =
    let ff = c.ranges.factor in
    let fu : SFits w64 c.args.self.size = omega (arith, ints) in
    let fo = c.ranges.force in
    let go : SFits w64 c.args.force = omega (arith, ints) in
    let p = product_small c.args.factor c.args.self.size 23 22400000000 c.requires c.args.self.small in
    let fp : SFits w64 (c.args.factor *ℤ c.args.self.size) = omega (arith, ints) in
    let fr : SFits w128 c.wide.result = search rules in
    let v = simp to_z-of_z at c.wide.ensures.value in
    let s = product_small (c.args.factor *ℤ c.args.self.size) c.args.force 515200000000 (2 ^ 31) p (omega (arith, ints)) in
    record { value = simp to_z-of_z v; small = simp to_z-of_z (subst (λ (z : ℤ). nat_abs z ≤ 2 ^ 70) (sym v) (le_trans s (lit≤ tt))) }
