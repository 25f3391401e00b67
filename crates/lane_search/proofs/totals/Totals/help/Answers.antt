use Rattle.std.proofs.Common.{◌-◌, length, get_or, arith, w64, SFits, rules}
use Rattle.std.proofs.lemmas.Int.{to_z-of_z}
use Rattle.std.proofs.lemmas.List.{length-map}
use Rattle.lane_search.proofs.Sampled.{read_mild}
use Rattle.lane_search.proofs.RunningSums.{nothing, total_small}
use Rattle.lane_search.proofs.totals.Totals.help.Goals as goal

pub returns-clause-small : goal.returns-clause-small
returns-clause-small g c =
    let t = c.args.self.now in
    let ts = t.firsts.now in
    let long = length-map ts (λ t. t.area) in
    let f : SFits w64 (get_or ts (length ts - 1) nothing).help = search rules in
    simp to_z-of_z (total_small g.S.Sense.beyond _ ts (length ts - 1) (read_mild t.sample.now) t.all_cells t.helping_cells (omega (arith, t.all_cells.long))).1
