use Rattle.std.proofs.Common.{arith, w64, pos, ◌*ℤ◌, ◌<ℤ◌, w32, SFits, rules}
use mir.Syntax.{w128}
use borrow.Author.Differences.{ints}
use Rattle.std.proofs.lemmas.Int.{to_z-of_z}
use Rattle.loads.proofs.Judging.{given}
use Rattle.loads.proofs.overloads.Unit.is_above_up.Goals as goal

pub returns-in-Some : goal.returns-in-Some
returns-in-Some c =
    let fu : SFits w64 c.args.self.size = omega (arith, ints) in
    let fq = c.ranges.q in
    let fd : SFits w32 c.args.figures.now.dead = search rules in
    let fk : SFits w32 c.in-Some.capacity = search rules in
    let fr : SFits w128 c.times.result = search rules in
    let e = simp to_z-of_z at c.times.ensures.value in
    let all = simp to_z-of_z at c.sums_of.ensures in
    let d = simp to_z-of_z at c.is_above.ensures in
    given (λ b s. b <ℤ s) (λ k. pos 20 *ℤ c.args.self.size *ℤ k) _ _ c.args.self.size c.args.figures.now.dead c.args.q _ _ _ c.in-Some.is e all d
