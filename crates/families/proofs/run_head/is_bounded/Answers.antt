use Rattle.std.proofs.Common.{◌≡◌, ◌+◌, ◌≤◌, nat_abs, refl, subst, w64, SFits, rules}
use Rattle.std.proofs.lemmas.Int.{to_z-of_z}
use Rattle.std.proofs.lemmas.List.Sums.{sum_by-take-le}
use Rattle.std.proofs.lemmas.Bool.{false≢true}
use Rattle.families.specs.Runs.{run_size, climb}
use Rattle.families.specs.Own.{start}
use Rattle.families.proofs.Climbing.{climb_end, climb_more}
use Rattle.families.proofs.run_head.is_bounded.Goals as goal

pub returns-then-not-keeps_limits : goal.returns-then-not-keeps_limits
returns-then-not-keeps_limits c =
    let rs = c.args.runs.now in
    let k = c.loop-run.run-index in
    let fy : SFits w64 c.climbed-y.result = search rules in
    let e = climb_end rs k c.loop-run-test.true in
    let end : climb rs (start run_size rs (k + 1)) ≡ c.climbed-y.result = cc in
    let large = simp to_z-of_z at c.if-not-keeps_limits.ensures.1 in
    (λ e. absurd (false≢true e), λ all. large (subst (λ z. nat_abs z ≤ 1000000) end (all (start run_size rs (k + 1)) (sum_by-take-le run_size rs (k + 1)))))

pub loop-run-preserved : goal.loop-run-preserved
loop-run-preserved c =
    let rs = c.args.runs.now in
    let k = c.loop-run.run-index in
    let fy : SFits w64 c.climbed-y.result = search rules in
    let e = climb_end rs k c.loop-run-test.true in
    let end : c.climbed-y.result ≡ climb rs (start run_size rs (k + 1)) = cc in
    let small = simp to_z-of_z at (c.if-not-keeps_limits.ensures.0 refl) in
    (simp to_z-of_z end, climb_more rs k 1000000 c.loop-run-test.true c.loop-run.invariant.1 (subst (λ z. nat_abs z ≤ 1000000) end small))
