use Rattle.std.proofs.Common.{◌≡◌, ◌-◌, length, get_or, ℤ, pos, ◌+ℤ◌, ap, ◌∙◌, arith}
use borrow.Author.Differences.{ints}
use Rattle.lines.specs.Cells.{clip}
use Rattle.lane_search.specs.Gains.{between}
use Rattle.lane_search.proofs.weighed.Weighed.sum_under.Goals as goal

pub returns-clause-value : goal.returns-clause-value
unfolding between
returns-clause-value g c =
    let near = c.requires in
    let sums = c.args.self.now.sums.now in
    let at : ℤ → ℤ = λ x. get_or sums (clip (length sums - 1) x) (pos 0) in
    let e : c.sum_to.result ≡ at (c.args.a +ℤ pos c.args.self.now.load.length) = c.sum_to.ensures.value ∙ ap at (omega (arith, ints)) in
    let f : c.sum_to-2.result ≡ at c.args.a = c.sum_to-2.ensures.value ∙ ap at (omega (arith, ints)) in
    omega (arith, ints)
