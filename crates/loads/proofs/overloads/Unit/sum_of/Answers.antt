use Rattle.std.proofs.Common.{arith, w64, SFits, rules}
use mir.Syntax.{w128}
use borrow.Author.Differences.{ints}
use Rattle.std.proofs.lemmas.Int.{to_z-of_z}
use Rattle.loads.proofs.Sizes.{fits_wide}
use Rattle.loads.proofs.overloads.Unit.sum_of.Goals as goal

pub returns : goal.returns
returns c =
    let fg = c.ranges.g in
    let ft = c.ranges.t in
    let fu : SFits w64 c.args.self.size = omega (arith, ints) in
    let fd = c.ranges.dead in
    let fq = c.ranges.q in
    let fx : SFits w128 c.times.result = search rules in
    let fy : SFits w128 c.wide.result = search rules in
    let fs = fits_wide c.times.result c.wide.result c.times.ensures.small c.wide.ensures.small in
    let x = simp to_z-of_z at c.times.ensures.value in
    let y = simp to_z-of_z at c.wide.ensures.value in
    simp to_z-of_z (cc (x, y))
