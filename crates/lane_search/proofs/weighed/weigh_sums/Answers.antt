use Rattle.std.proofs.Common.{◌<◌, length, pos, arith, w64, SFits, rules}
use Rattle.std.proofs.lemmas.Int.{to_z-of_z}
use Rattle.std.proofs.lemmas.List.{get_or-map}
use Rattle.lane_search.proofs.Sampled.{read_mild}
use Rattle.lane_search.proofs.RunningSums.{nothing, total_small}
use Rattle.lane_search.proofs.Pairs.{weigh_turn}
use Rattle.lane_search.proofs.weighed.weigh_sums.Goals as goal

pub weighed_sum-requires : goal.weighed_sum-requires
weighed_sum-requires g c =
    let t = c.args.totals.now in
    let s = total_small g.S.Sense.beyond _ t.firsts.now c.loop-k.k (read_mild t.sample.now) t.all_cells t.helping_cells (omega arith) in
    record { area = s.0; help = s.1 }

pub loop-k-preserved : goal.loop-k-preserved
loop-k-preserved g c =
    let ts = c.args.totals.now.firsts.now in
    let k = c.loop-k.k in
    let lt : k < length ts = omega arith in
    let fr : SFits w64 c.weighed_sum.result = search rules in
    simp to_z-of_z (weigh_turn c.args.load _ _ c.loop-k.sums k c.weighed_sum.result c.loop-k.invariant (omega arith)
    (rw (get_or-map (λ t. t.area) ts k nothing (pos 0) lt, get_or-map (λ t. t.help) ts k nothing (pos 0) lt) c.weighed_sum.ensures))
