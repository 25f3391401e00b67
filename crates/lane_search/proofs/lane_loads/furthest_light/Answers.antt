use Rattle.std.proofs.Common.{◌*◌, pos, ◌*ℤ◌, ap, ◌∙◌, w64, SFits, rules}
use Rattle.std.proofs.lemmas.Int.{to_z-of_z}
use Rattle.lane_search.proofs.Sampled.{read_mild}
use Rattle.lane_search.proofs.Spreads.{light_reaches}
use Rattle.lane_search.proofs.lane_loads.furthest_light.Goals as goal

pub returns : goal.returns
returns g c =
    let f : SFits w64 c.help.result = search rules in
    let t : SFits w64 c.times.result = search rules in
    light_reaches g.S.Sense.order _ _ (read_mild c.args.totals.now.sample.now) c.args.set.now.rest.2 c.sign_of.result c.sign_of.ensures _ _
    (simp to_z-of_z at c.new.ensures.sum ∙ simp to_z-of_z at c.times.ensures.value ∙ ap (λ v. pos (112 * c.args.set.now.loads.lane) *ℤ v) c.help.ensures.value) c.new.ensures.place
