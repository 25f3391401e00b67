use Rattle.std.proofs.Common.{◌+◌, pos, nat_abs, ◌∙◌, arith, w64, SFits, to_z, of_z, rules}
use Rattle.std.proofs.lemmas.Int.{ints, to_z-of_z}
use Rattle.lane_search.specs.Readings.{line_read}
use Rattle.lane_search.proofs.Groups.{three_at}
use Rattle.lane_search.proofs.axles.Axles.on.Goals as goal

pub returns : goal.returns
returns c =
    let d = c.args.self.spacing in
    let n = nat_abs (to_z w64 (of_z w64 c.args.a)) in
    let fa = c.ranges.a in
    let fy : SFits w64 c.on.result = search rules in
    let fu : SFits w64 c.on-2.result = search rules in
    let fv : SFits w64 c.on-3.result = search rules in
    let fr : SFits w64 c.weigh.result = search rules in
    simp to_z-of_z (simp to_z-of_z at c.weigh.ensures ∙ three_at (line_read c.args.sample.now) d c.args.self.weights c.args.a (pos n) (pos (n + d)) (pos (n + d + d)) _ _ _
    (omega (arith, ints)) (omega (arith, ints)) (omega (arith, ints)) c.on.ensures.value c.on-2.ensures.value c.on-3.ensures.value)
