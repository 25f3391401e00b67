use Rattle.std.proofs.Common.{◌∙◌, arith, w64, SFits, rules}
use Rattle.std.proofs.lemmas.Int.{ints, to_z-of_z}
use Rattle.lane_search.specs.Readings.{line_read}
use Rattle.lane_search.proofs.Groups.{three_at}
use Rattle.lane_search.proofs.axles.Axles.at.Goals as goal

pub returns : goal.returns
returns c =
    let d = c.args.self.spacing in
    let fa = c.ranges.a in
    let fy : SFits w64 c.at.result = search rules in
    let fu : SFits w64 c.at-2.result = search rules in
    let fv : SFits w64 c.at-3.result = search rules in
    let fr : SFits w64 c.weigh.result = search rules in
    simp to_z-of_z (simp to_z-of_z at c.weigh.ensures ∙ three_at (line_read c.args.sample.now) d c.args.self.weights c.args.a _ _ _ _ _ _
    (omega (arith, ints)) (omega (arith, ints)) (omega (arith, ints)) c.at.ensures.value c.at-2.ensures.value c.at-3.ensures.value)
