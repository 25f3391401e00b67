use Rattle.std.proofs.Common.{◌⊎◌, inl, inr, w64, SFits, rules}
use Rattle.std.proofs.lemmas.Int.{to_z-of_z}
use Rattle.loads.specs.Loads.{Load}
use Rattle.lane_search.specs.Readings.{line_read}
use Rattle.lane_search.specs.Places.{OfAxles, OfVehicle}
use Rattle.lane_search.proofs.Reaching.{reaches_join, axles_heavy, vehicle_heavy, train_heavy, heavy_kinds}
use Rattle.lane_search.proofs.reaches.furthest_heavy.Goals as goal

pub returns : goal.returns
returns g c =
    let o = g.S.Sense.order in
    let l = line_read c.args.totals.now.sample.now in
    let t = c.args.set.now.loads in
    let P : Load → Type 0 = λ x. OfAxles x ⊎ OfVehicle t x in
    let fv : SFits w64 c.furthest_vehicle-vehicle.result.sum = search rules in
    let ft : SFits w64 c.furthest_train-train.result.sum = search rules in
    let first = reaches_join o l t OfAxles (OfVehicle t) P _ _ _ _ _ _ c.furthest_axles-best.ensures c.furthest_vehicle-vehicle.ensures
    (λ x h. inl h) (λ x h. inr h) (λ x h. h) (simp to_z-of_z at c.offer.ensures.sum) (simp to_z-of_z at c.offer.ensures.place) in
    reaches_join o l t P _ _ _ _ _ _ _ _ first c.furthest_train-train.ensures
    (λ x h. elim h [ inl a ↦ axles_heavy t x a | inr b ↦ vehicle_heavy t x b ]) (train_heavy t) (heavy_kinds t)
    (simp to_z-of_z at c.offer-2.ensures.sum) (simp to_z-of_z at c.offer-2.ensures.place)
