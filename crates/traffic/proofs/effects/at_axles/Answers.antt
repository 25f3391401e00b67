use Rattle.std.proofs.Common.{◌^◌, ◌<◌, pos, ◌+ℤ◌, arith, w64, SFits, rules}
use mir.Val.{hbits}
use borrow.Author.Differences.{ints}
use Rattle.std.proofs.lemmas.Int.{to_z-of_z, to_z_pos}
use Rattle.traffic.proofs.AxleSums.{axles_are, parts_are}
use Rattle.traffic.proofs.effects.at_axles.Goals as goal

pub overflow_add-result : goal.overflow_add-result
overflow_add-result g c =
    let fy : SFits w64 c.of_axle-2.result = search rules in
    let fz : SFits w64 c.of_axle-3.result = search rules in
    simp to_z-of_z (omega (arith, ints))

pub overflow_add-result-2 : goal.overflow_add-result-2
overflow_add-result-2 g c =
    let fx : SFits w64 c.of_axle.result = search rules in
    let fy : SFits w64 c.of_axle-2.result = search rules in
    let fz : SFits w64 c.of_axle-3.result = search rules in
    let fs : SFits w64 (c.of_axle-2.result +ℤ c.of_axle-3.result) = omega (arith, ints) in
    simp to_z-of_z (omega (arith, ints))

pub returns : goal.returns
returns g c =
    let fa = c.ranges.a in
    let t = c.args.set.now.loads in
    let d = t.spacing in
    let small : d < 2 ^ hbits w64 = omega arith in
    let fb : SFits w64 (c.args.a +ℤ pos d) = omega (arith, ints) in
    let fc : SFits w64 (c.args.a +ℤ pos d +ℤ pos d) = omega (arith, ints) in
    let fx : SFits w64 c.of_axle.result = search rules in
    let fy : SFits w64 c.of_axle-2.result = search rules in
    let fz : SFits w64 c.of_axle-3.result = search rules in
    let fs : SFits w64 (c.of_axle-2.result +ℤ c.of_axle-3.result) = omega (arith, ints) in
    let ft : SFits w64 (c.of_axle.result +ℤ (c.of_axle-2.result +ℤ c.of_axle-3.result)) = omega (arith, ints) in
    let x = simp to_z-of_z at c.of_axle.ensures.value in
    let y = simp (to_z-of_z, to_z_pos) at c.of_axle-2.ensures.value in
    let z = simp (to_z-of_z, to_z_pos) at c.of_axle-3.ensures.value in
    let e = axles_are (g.L.InfluenceLine.line c.args.line.now) d c.args.a t c.args.group c.axle_weights-u.result c.axle_weights-u.ensures.value in
    record { value = simp to_z-of_z (parts_are _ _ _ _ _ _ _ x y z e); small = simp to_z-of_z (omega (arith, ints)) }
