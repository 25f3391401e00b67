use Rattle.std.proofs.Common.{◌*ℤ◌, arith, w64, SFits, rules}
use Rattle.std.proofs.lemmas.Int.{ints}
use Rattle.search.proofs.Optimum.{shared_small}
use Rattle.search.proofs.fillings.Filling.added.Goals as goal

pub overflow_mul-result : goal.overflow_mul-result
overflow_mul-result g c =
    let h = shared_small c.at-percent.result c.by_share.result.sum c.at-percent.ensures.small c.by_share.ensures.small in
    let r : SFits w64 (c.at-percent.result *ℤ c.by_share.result.sum) = omega (arith, ints) in
    search rules

pub returns : goal.returns
returns g c =
    let h = shared_small c.at-percent.result c.by_share.result.sum c.at-percent.ensures.small c.by_share.ensures.small in
    let r : SFits w64 (c.at-percent.result *ℤ c.by_share.result.sum) = omega (arith, ints) in
    record { value = search rules; small = search rules }
