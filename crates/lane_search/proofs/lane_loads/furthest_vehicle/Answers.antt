use Rattle.lane_search.proofs.Sampled.{read_mild}
use Rattle.lane_search.proofs.Spreads.{vehicle_reaches}
use Rattle.lane_search.proofs.lane_loads.furthest_vehicle.Goals as goal

pub returns : goal.returns
returns g c =
    let set = c.args.set.now in
    let found = c.furthest_over.ensures in
    vehicle_reaches g.S.Sense.order _ _ (read_mild c.args.totals.now.sample.now) set.vehicle.2 set.rest.1 _ _ _ c.vehicle-load.ensures found.furthest found.code found.sign
