use Rattle.std.proofs.Common.{ℤ, Decides, w64, subst}
use Rattle.std.proofs.lemmas.Int.{to_z-of_z}
use Rattle.std.proofs.lemmas.Bool.Decides.{Decides-or}
use Rattle.loads.specs.Sums.{AboveUp, BelowDown}
use Rattle.loads.proofs.overloads.overloads.Goals as goal

pub returns : goal.returns
returns g c =
    let f = c.args.figures.now in
    let q = c.args.q in
    let fits = to_z-of_z w64 q c.ranges.q in
    let up = subst (λ (u : ℤ). Decides c.is_above_up-up.result (AboveUp u f q)) c.of-unit.ensures (subst (λ (z : ℤ). Decides c.is_above_up-up.result (AboveUp c.of-unit.result.size f z)) fits c.is_above_up-up.ensures) in
    let down = subst (λ (u : ℤ). Decides c.is_below_down-down.result (BelowDown u f q)) c.of-unit.ensures (subst (λ (z : ℤ). Decides c.is_below_down-down.result (BelowDown c.of-unit.result.size f z)) fits c.is_below_down-down.ensures) in
    Decides-or c.is_above_up-up.result c.is_below_down-down.result up down
