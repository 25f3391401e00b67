use Rattle.std.proofs.Common.{w64, SFits, rules}
use Rattle.std.proofs.lemmas.Int.{to_z-of_z}
use Rattle.lane_search.specs.Readings.{line_read}
use Rattle.lane_search.proofs.Groups.{group_joins}
use Rattle.lane_search.proofs.axles.offer_group.Goals as goal

pub returns : goal.returns
returns g c =
    let o = g.S.Sense.order in
    let f : SFits w64 c.of_group-other.result.sum = search rules in
    group_joins o (line_read c.args.sample.now) c.args.set.now.loads c.args.group
    c.args.best.now.sum c.of_group-other.result.sum c.offer.new.self.sum c.args.best.now.place c.of_group-other.result.place c.offer.new.self.place
    c.requires.before c.of_group-other.ensures
    (simp to_z-of_z at c.offer.ensures.sum) (simp to_z-of_z at c.offer.ensures.place)
