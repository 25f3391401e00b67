use Rattle.std.proofs.Common.{◌*◌, ◌≤◌, nat_abs, rules}
use Rattle.std.proofs.lemmas.Iterator.{cases_from_all, YieldsList-from_slice}
use Rattle.families.proofs.Between.{decided_at_stations}
use Rattle.families.proofs.station_head.Step.is_bounded.Goals as goal

pub returns : goal.returns
returns c =
    let d = c.args.self.size in
    let ys = c.args.ys.now in
    let small = cases_from_all _ _ c.all.result (λ y. d * nat_abs y ≤ 1000000) (λ y. d * nat_abs y ≤ 1000000 → ⊥) c.all.ensures.ran (YieldsList-from_slice ys cc) (λ y q k. search rules) (λ y q k. search rules) in
    decided_at_stations d 1000000 ys c.all.result c.args.self.at_least c.requires small
