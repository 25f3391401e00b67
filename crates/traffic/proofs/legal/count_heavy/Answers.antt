use Rattle.std.proofs.Common.{◌≡◌, count_by, sym, ◌∙◌, rules}
use Rattle.loads.specs.Decks.{heavy}
use Rattle.traffic.specs.Records.{lane_of}
use Rattle.traffic.proofs.Deciding.{heavies_is}
use Rattle.traffic.proofs.legal.count_heavy.Goals as goal

pub returns : goal.returns
returns c l t =
    let e : c.count.result ≡ count_by (λ x. heavy (lane_of l t x).load) c.args.lanes.now = search rules in
    e ∙ sym (heavies_is l t c.args.lanes.now)
