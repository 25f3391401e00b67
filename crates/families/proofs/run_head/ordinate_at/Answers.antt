use Rattle.std.proofs.Common.{◌≡◌, ◌+◌, sym, ap, ◌∙◌, arith, w64, SFits, rules}
use Rattle.std.proofs.lemmas.Int.{to_z-of_z}
use Rattle.std.proofs.lemmas.List.Sums.{sum_by_more, sum_by_more_le}
use Rattle.lines.proofs.Bounds.{place_on}
use Rattle.families.specs.Runs.{no_run, run_size, run_line, climb}
use Rattle.families.specs.Own.{start}
use Rattle.families.proofs.Climbing.{climb_at, climb_end}
use Rattle.families.proofs.run_head.ordinate_at.Goals as goal

pub returns-then-left-n : goal.returns-then-left-n
returns-then-left-n c =
    let rs = c.args.runs.now in
    let k = c.loop-run.run-index in
    let fr : SFits w64 c.climbed.result = search rules in
    let high = sum_by_more_le run_size rs k no_run c.loop-run-test.true in
    let e = climb_at rs k c.loop-run.left c.loop-run-test.true (omega arith) in
    let here : c.climbed.result ≡ climb rs (start run_size rs k + c.loop-run.left) = cc in
    simp to_z-of_z (here ∙ ap (climb rs) c.loop-run.invariant.1 ∙ sym (place_on (run_line 1 rs) c.args.x (omega arith)))

pub loop-run-preserved : goal.loop-run-preserved
loop-run-preserved c =
    let rs = c.args.runs.now in
    let k = c.loop-run.run-index in
    let fr : SFits w64 c.climbed-y.result = search rules in
    let e = sum_by_more run_size rs k no_run c.loop-run-test.true in
    let f = climb_end rs k c.loop-run-test.true in
    let end : c.climbed-y.result ≡ climb rs (start run_size rs (k + 1)) = cc in
    (simp to_z-of_z end, omega arith, λ _. omega arith)
