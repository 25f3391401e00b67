use Rattle.std.proofs.Common.{true, arith, w64, SFits, rules}
use Rattle.std.proofs.lemmas.Int.{to_z-of_z}
use Rattle.lines.proofs.UnderCells.{under_small}
use Rattle.lane_search.specs.Readings.{line_read}
use Rattle.lane_search.specs.Gains.{gains}
use Rattle.lane_search.proofs.Sampled.{read_mild}
use Rattle.lane_search.proofs.RunningSums.{add_first, add_turn}
use Rattle.lane_search.proofs.totals.add_up.Goals as goal

pub loop-k-init : goal.loop-k-init
loop-k-init g c = add_first _ _ _

pub with-sum-requires-clause-areas : goal.with-sum-requires-clause-areas
with-sum-requires-clause-areas g c =
    let s = c.args.sample.now in
    let short = s.short in
    rw c.loop-k.invariant.next.area (under_small (line_read s) (read_mild s) (λ _. true) c.loop-k.k (omega arith))

pub with-sum-requires-clause-helps : goal.with-sum-requires-clause-helps
with-sum-requires-clause-helps g c =
    let s = c.args.sample.now in
    let short = s.short in
    rw c.loop-k.invariant.next.help (under_small (line_read s) (read_mild s) (gains g.S.Sense.beyond (line_read s)) c.loop-k.k (omega arith))

pub loop-k-preserved : goal.loop-k-preserved
loop-k-preserved g c =
    let f : SFits w64 c.double_area.result = search rules in
    let e = c.double_area.ensures.value in
    add_turn _ _ _ _ _ _ c.loop-k.invariant (omega arith) (rw e at (simp to_z-of_z at c.with-sum.ensures.area)) (rw e at (simp to_z-of_z at c.with-sum.ensures.help))
