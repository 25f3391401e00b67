use Rattle.std.proofs.Common.{arith, w64, ◌*ℤ◌, ◌<ℤ◌, pos, ◌+ℤ◌, neg_ℤ, ap, ◌∙◌, w32, SFits, rules}
use lib.IntN.{+ℤ_idl}
use mir.Syntax.{w128}
use borrow.Author.Differences.{ints}
use Rattle.std.proofs.lemmas.Int.{to_z-of_z}
use Rattle.loads.proofs.Judging.{given}
use Rattle.loads.proofs.Sizes.{fits_negative}
use Rattle.loads.proofs.overloads.Unit.is_below_down.Goals as goal

pub returns-in-Some : goal.returns-in-Some
returns-in-Some c =
    let fu : SFits w64 c.args.self.size = omega (arith, ints) in
    let fq = c.ranges.q in
    let fd : SFits w32 c.args.figures.now.dead = search rules in
    let fk : SFits w32 c.in-Some.capacity = search rules in
    let fr : SFits w128 c.times.result = search rules in
    let fn : SFits w128 (pos 0 +ℤ neg_ℤ c.times.result) = fits_negative c.times.result c.times.ensures.small in
    let e = simp to_z-of_z at c.times.ensures.value in
    let all = simp to_z-of_z at c.sums_of.ensures in
    let d = simp to_z-of_z at c.is_below.ensures in
    given (λ b s. s <ℤ b) (λ k. neg_ℤ (pos 20 *ℤ c.args.self.size *ℤ k)) _ _ c.args.self.size c.args.figures.now.dead c.args.q _ _ _ c.in-Some.is (+ℤ_idl (neg_ℤ c.times.result) ∙ ap neg_ℤ e) all d
