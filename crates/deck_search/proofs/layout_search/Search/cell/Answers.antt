use Rattle.std.proofs.Common.{◌<◌, arith}
use Rattle.deck_search.proofs.Starts.{light_at, heavy_at}
use Rattle.deck_search.proofs.Tries.{tried, no_heavy, some_heavy}
use Rattle.deck_search.proofs.layout_search.Search.cell.Goals as goal

pub returns-then-most-eq0 : goal.returns-then-most-eq0
returns-then-most-eq0 g c =
    let v = tried g.S.Sense.order c.args.self.now.worths.now c.args.self.now.deck (light_at c.args.s) _ _ _ _ _ _ _ _ c.requires.next.worst c.requires.past_light.worst c.try_slot-worst.ensures.sum c.try_slot-worst.ensures.place in
    record { worst = no_heavy c.args.self.now.deck c.args.most c.args.s c.if-most-eq0.true v }

pub returns : goal.returns
returns g c =
    let lt : 0 < c.args.most = omega arith in
    let v = tried g.S.Sense.order c.args.self.now.worths.now c.args.self.now.deck (light_at c.args.s) _ _ _ _ _ _ _ _ c.requires.next.worst c.requires.past_light.worst c.try_slot-worst.ensures.sum c.try_slot-worst.ensures.place in
    let u = tried g.S.Sense.order c.args.self.now.worths.now c.args.self.now.deck (heavy_at c.args.s) _ _ _ _ _ _ _ _ v (c.requires.past_heavy lt).worst c.try_slot.ensures.sum c.try_slot.ensures.place in
    record { worst = some_heavy c.args.self.now.deck c.args.most c.args.s lt u }
