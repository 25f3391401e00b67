use Rattle.std.proofs.Common.{◌≡◌, pos, ◌*ℤ◌, arith, w32, w64, SFits, to_z, of_z, rules}
use Rattle.std.proofs.lemmas.Int.{ints, to_z-of_z}
use Rattle.lane_search.specs.Readings.{line_read}
use Rattle.lane_search.proofs.Sampled.{read_mild}
use Rattle.lane_search.proofs.Groups.{group_small, group_reaches}
use Rattle.lane_search.proofs.axles.of_group.Goals as goal

pub overflow_mul-best : goal.overflow_mul-best
overflow_mul-best g c =
    let s = group_small (line_read c.args.sample.now) c.of.result _ _ (read_mild c.args.sample.now) c.furthest_start-best.ensures in
    let fb : SFits w64 c.furthest_start-best.result.sum = search rules in
    let fs : SFits w64 (pos 224000 *ℤ c.furthest_start-best.result.sum) = omega (arith, ints) in
    simp to_z-of_z fs

pub returns : goal.returns
returns g c =
    let l = line_read c.args.sample.now in
    let m = read_mild c.args.sample.now in
    let best = c.furthest_start-best.result in
    let w = c.furthest_start-best.ensures in
    let s = group_small l c.of.result _ _ m w in
    let fb : SFits w64 best.sum = search rules in
    let fs : SFits w64 (pos 224000 *ℤ best.sum) = omega (arith, ints) in
    let start = w.within in
    let e : to_z w32 (of_z w32 (to_z w64 (of_z w64 best.place))) ≡ best.place = omega (arith, ints) in
    group_reaches g.S.Sense.order l c.args.set.now.loads c.args.group c.of.result best.sum best.place _ _ _ m
    c.of.ensures.spacing c.of.ensures.weights w (simp to_z-of_z at c.new.ensures.sum) c.new.ensures.place e
