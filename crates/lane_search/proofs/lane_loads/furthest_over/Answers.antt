use Rattle.std.proofs.Common.{◌≤◌, pos, ◌*ℤ◌, nat_abs, ap, ◌∙◌, mul-le-mul, arith, w32, w64, SFits, rules}
use Rattle.std.proofs.lemmas.Int.{ints, to_z-of_z}
use Rattle.lane_search.proofs.Sampled.{read_mild}
use Rattle.lane_search.proofs.RunningSums.{running_sized}
use Rattle.lane_search.proofs.Pairs.{rest_is, weighted_sized}
use Rattle.lane_search.proofs.lane_loads.furthest_over.Goals as goal

pub invariant_of-weighed : goal.invariant_of-weighed
invariant_of-weighed g c =
    let t = c.args.totals.now in
    let m = read_mild t.sample.now in
    let xs = running_sized _ _ _ m t.all_cells in
    let gs = running_sized _ _ _ m t.helping_cells in
    let p = mul-le-mul c.args.load.lane_limit c.help.ensures.small in
    let f : SFits w64 c.help.result = search rules in
    let r : SFits w64 c.times.result = search rules in
    let s = simp to_z-of_z at c.times.ensures.small in
    let few : nat_abs c.times.result ≤ 134400000000000 = omega arith in
    let v = simp to_z-of_z at c.times.ensures.value ∙ ap (λ v. pos c.args.load.lane *ℤ v) c.help.ensures.value in
    record {
      sized = weighted_sized c.args.load _ _ _ xs gs (omega (arith, t.all_cells.long, t.helping_cells.long)) c.weigh_sums.ensures;
      few = simp to_z-of_z few;
      beside_axle = λ x. simp to_z-of_z (rest_is g.S.Sense.beyond _ c.args.load _ _ _ c.times.result x t.all_cells t.helping_cells c.weigh_sums.ensures v);
    }

pub returns-clause-furthest : goal.returns-clause-furthest
returns-clause-furthest g c =
    let on = c.furthest_block-found.ensures.within in
    let few = c.args.load.length_limit in
    let fs : SFits w64 c.furthest_block-found.result.sum = search rules in
    let fa : SFits w64 c.furthest_block-found.result.place.0 = search rules in
    let fz : SFits w64 c.furthest_block-found.result.place.1 = search rules in
    let ga : SFits w32 c.furthest_block-found.result.place.0 = omega (arith, ints) in
    let gz : SFits w32 c.furthest_block-found.result.place.1 = omega (arith, ints) in
    let e = simp to_z-of_z at c.new.ensures.place in
    let s = simp to_z-of_z at c.new.ensures.sum in
    rw (e, s) c.furthest_block-found.ensures
