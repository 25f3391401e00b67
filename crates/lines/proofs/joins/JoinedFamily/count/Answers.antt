use Rattle.std.proofs.Common.{◌+ℤ◌, SFits, w32, arith, rules}
use borrow.Author.Differences.{ints}
use Rattle.std.proofs.lemmas.Int.{to_z-of_z}
use Rattle.lines.proofs.Joining.{joined_count}
use Rattle.lines.proofs.joins.JoinedFamily.count.Goals as goal

pub returns-clause-value : goal.returns-clause-value
returns-clause-value g c =
    let f1 : SFits w32 c.count.result = search rules in
    let f2 : SFits w32 c.count-2.result = search rules in
    let fs : SFits w32 (c.count.result +ℤ c.count-2.result) = omega (arith, ints) in
    let fm : SFits w32 c.min.result = search rules in
    let m = simp to_z-of_z at c.min.ensures.value in
    simp to_z-of_z (joined_count _ _ c.count.ensures.value c.count-2.ensures.value m)
