use Rattle.std.proofs.Common.{◌^◌, ◌<◌, SFits, w64, arith, rules, pos, ◌+ℤ◌, ◌≤ℤ◌}
use mir.Val.{hbits}
use borrow.Author.Differences.{ints}
use Rattle.std.proofs.lemmas.Int.{to_z-of_z, to_z_pos}
use Rattle.traffic.proofs.Deciding.{decides_le}
use Rattle.traffic.proofs.records.LaneRecord.is_within.Goals as goal

pub returns-then-reach-left : goal.returns-then-reach-left
returns-then-reach-left c l t =
    let fl : SFits w64 c.left.result = search rules in
    let fr : SFits w64 c.right.result = search rules in
    let fv : SFits w64 c.reach-then-reach-left.result = search rules in
    let fs : SFits w64 (pos c.args.deck.width +ℤ c.reach-then-reach-left.result) = omega (arith, ints) in
    let small : c.args.deck.width < 2 ^ hbits w64 = omega arith in
    let x = c.left.ensures l t in
    let y = c.right.ensures l t in
    let u = c.reach.ensures.value l t in
    let v = c.reach-then-reach-left.ensures.value l t in (
      λ e. record { from = grind (arith, ints); to = grind (arith, ints) },
      λ h. let to : c.right.result ≤ℤ (pos c.args.deck.width +ℤ c.reach-then-reach-left.result) = omega (arith, ints, h.to) in simp (to_z-of_z, to_z_pos) ((decides_le _ _).1 to),
    )
