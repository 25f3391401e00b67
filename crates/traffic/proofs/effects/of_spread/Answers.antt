use Rattle.std.proofs.Common.{◌/◌, nat_abs, div-mul-le_self, arith, w64, SFits, rules}
use Rattle.std.proofs.lemmas.Int.{to_z-of_z}
use Rattle.loads.proofs.Sizes.{spread_small}
use Rattle.traffic.proofs.effects.of_spread.Goals as goal

pub times-requires : goal.times-requires
times-requires g c =
    let s = c.args.spread in
    let fy : SFits w64 c.double_areas.result = search rules in
    let p = spread_small (112000 / s.length) s.weight s.length 2000000 (nat_abs c.double_areas.result) 112000 800 (div-mul-le_self 112000 s.length) c.requires.light c.double_areas.ensures.short in
    simp to_z-of_z (omega arith)

pub returns-clause-small : goal.returns-clause-small
returns-clause-small g c =
    let s = c.args.spread in
    let fy : SFits w64 c.double_areas.result = search rules in
    let ft : SFits w64 c.times.result = search rules in
    let p = spread_small (112000 / s.length) s.weight s.length 2000000 (nat_abs c.double_areas.result) 112000 800 (div-mul-le_self 112000 s.length) c.requires.light c.double_areas.ensures.short in
    let small = simp to_z-of_z at c.times.ensures.small in
    simp to_z-of_z (omega arith)
