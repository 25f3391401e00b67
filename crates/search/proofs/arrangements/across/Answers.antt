use Rattle.std.proofs.Common.{w64, SFits, rules}
use Rattle.std.proofs.lemmas.Int.{to_z-of_z}
use Rattle.loads.specs.Shares.{listed}
use Rattle.search.proofs.WorstOfAll.{worst_of_all}
use Rattle.search.proofs.arrangements.across.Goals as goal

pub returns : goal.returns
returns g c l t on back =
    let fs : SFits w64 c.worst_layout-worst.result.sum = search rules in
    let found = c.worst_layout-worst in
    let by = c.args.filling.now in
    simp to_z-of_z (worst_of_all g.S.Sense.order l t c.args.carriageway.now.deck (listed by.shares.now) by.on.now by.back.now c.worths.result
    found.result.sum found.result.place c.write.new.found on back c.args.carriageway.now.widest c.worths.ensures found.ensures.worst c.write.ensures)
