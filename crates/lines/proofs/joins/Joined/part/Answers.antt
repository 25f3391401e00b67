use Rattle.std.proofs.Common.{◌≤◌, length, ℤ, pos, ◌-ℤ◌, ◌≤ℤ◌, ◌<ℤ◌, sym, ap, ◌∙◌, arith, w32, SFits, rules}
use borrow.Author.Differences.{ints}
use Rattle.std.proofs.lemmas.Int.{to_z-of_z}
use Rattle.lines.specs.Lines.{line_no}
use Rattle.lines.proofs.Joining.{joined_first, joined_second, joined_past}
use Rattle.lines.proofs.joins.Joined.part.Goals as goal

pub returns-then-line-n : goal.returns-then-line-n
returns-then-line-n g c =
    let xs = g.F.Family.lines c.args.self.now.first in
    let ys = g.G.Family.lines c.args.self.now.second in
    let fl = c.ranges.line in
    let few : length xs ≤ 65535 = omega (arith, ints) in
    let h : c.args.line <ℤ pos (length xs) = omega (arith, ints) in
    simp to_z-of_z (joined_first xs ys c.args.line few h)

pub returns-then-line-lt-MOST : goal.returns-then-line-lt-MOST
returns-then-line-lt-MOST g c =
    let xs = g.F.Family.lines c.args.self.now.first in
    let ys = g.G.Family.lines c.args.self.now.second in
    let fl = c.ranges.line in
    let fn : SFits w32 c.count-n.result = search rules in
    let fd : SFits w32 (c.args.line -ℤ c.count-n.result) = omega (arith, ints) in
    let low : pos (length xs) ≤ℤ c.args.line = omega (arith, ints) in
    let high : c.args.line <ℤ pos 65535 = omega (arith, ints) in
    let n = ap (λ (z : ℤ). line_no ys (c.args.line -ℤ z)) (sym c.count-n.ensures.value) in
    let e = joined_second xs ys c.args.line low high ∙ n in
    grind (arith, to_z-of_z)

pub returns-else-line-lt-MOST : goal.returns-else-line-lt-MOST
returns-else-line-lt-MOST g c =
    let xs = g.F.Family.lines c.args.self.now.first in
    let ys = g.G.Family.lines c.args.self.now.second in
    let past : pos 65535 ≤ℤ c.args.line = omega (arith, ints) in
    joined_past xs ys c.args.line past
