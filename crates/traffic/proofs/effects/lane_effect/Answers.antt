use Rattle.std.proofs.Common.{rules}
use Rattle.traffic.specs.Records.{of_sign}
use Rattle.traffic.proofs.effects.lane_effect.Goals as goal

pub returns-in-Light-clause-value : goal.returns-in-Light-clause-value
returns-in-Light-clause-value g c =
    let line = g.L.InfluenceLine.line c.args.line.now in
    let v = c.of_lane_load.ensures.value (of_sign line c.args.lane.now.sign) (λ k b lt p. search rules) in
    search rules
