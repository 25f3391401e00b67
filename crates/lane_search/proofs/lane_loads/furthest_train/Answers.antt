use Rattle.lane_search.proofs.Sampled.{read_mild}
use Rattle.lane_search.proofs.Spreads.{train_reaches}
use Rattle.lane_search.proofs.lane_loads.furthest_train.Goals as goal

pub returns : goal.returns
returns g c =
    let set = c.args.set.now in
    let found = c.furthest_over.ensures in
    train_reaches g.S.Sense.order _ _ (read_mild c.args.totals.now.sample.now) set.train.2 set.rest.1 set.rest.2 _ _ _ (rw found.sign c.sign_of.ensures) c.train-load.ensures found.furthest found.code
