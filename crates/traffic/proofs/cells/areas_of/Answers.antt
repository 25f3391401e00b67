use Rattle.std.proofs.Common.{◌≡◌, ◌+◌, ◌<◌, ◌≤◌, cond, ℤ, pos, ◌+ℤ◌, nat_abs, refl, ap, ◌∙◌, arith, w64, SFits, of_z, to_z, rules}
use borrow.Author.Differences.{ints}
use Rattle.std.proofs.lemmas.Int.{to_z-of_z, to_z_pos}
use Rattle.lines.specs.Lines.{ordinate_or_zero}
use Rattle.lines.specs.Cells.{double_area, under}
use Rattle.traffic.proofs.Taken.{taken_more, taken_small}
use Rattle.traffic.proofs.cells.areas_of.Goals as goal
use Rattle.traffic.proofs.cells.areas_of.Goals.{then-takes, else-takes}

pub loop-k-init : goal.loop-k-init
unfolding under
loop-k-init g c =
    let f : SFits w64 c.ordinate-here.result = search rules in
    record {
      value = λ set s. refl;
      small = omega arith;
      here = to_z-of_z w64 c.ordinate-here.result f ∙ c.ordinate-here.ensures.value;
      low = simp to_z-of_z c.ordinate-here.ensures.small;
    }

pub loop-k-preserved : goal.loop-k-preserved
loop-k-preserved g c =
    let line = g.L.InfluenceLine.line c.args.line.now in
    let k = c.loop-k.k in
    let here = to_z w64 c.loop-k.here-bits in
    let next = c.ordinate-next.result in
    let area : ℤ = here +ℤ next in
    let sum = to_z w64 c.loop-k.sum-bits in
    let fn : SFits w64 c.length-n.result = search rules in
    let fx : SFits w64 next = search rules in
    let sh = c.loop-k.invariant.low in
    let sx = c.ordinate-next.ensures.small in
    let fa : SFits w64 area = omega (arith, ints) in
    let n : nat_abs c.length-n.result ≡ line.len = ap nat_abs c.length-n.ensures.value in
    let within : k < line.len = omega (arith, ints) in
    let few : k ≤ 100000 = omega (arith, ints) in
    let b = c.loop-k.invariant.small in
    let small : nat_abs area ≤ 2000000 = omega (arith, ints) in
    let fs : SFits w64 (sum +ℤ area) = omega (arith, ints) in
    let after : to_z w64 c.if-takes.sum-bits ≡ sum +ℤ cond c.takes.result area (pos 0) = elim c.if-takes.branch [
      | then-takes w ↦ rw w.if-takes.true (simp to_z-of_z at w.sum-is)
      | else-takes w ↦ rw w.if-takes.false (omega (arith, ints, w.sum-is))
    ] in
    let at_k = to_z_pos w64 k (omega arith) in
    let at_next : to_z w64 (of_z w64 (to_z w64 k +ℤ pos 1)) ≡ pos (k + 1) = omega (arith, ints) in
    let x : next ≡ ordinate_or_zero line (pos (k + 1)) = rw at_next at c.ordinate-next.ensures.value in
    let d : area ≡ double_area line k = ap (λ (z : ℤ). z +ℤ next) c.loop-k.invariant.here ∙ ap (λ (z : ℤ). ordinate_or_zero line (pos k) +ℤ z) x in
    let answered = simp to_z-of_z at c.takes.ensures in
    record {
      value = λ set s. taken_more line set (λ x y r. g.T.Fn.post c.args.takes (x, (y, tt)) r) k area c.takes.result sum _ s within d answered (c.loop-k.invariant.value set s) after;
      small = taken_small k area c.takes.result sum _ small b after;
      here = to_z-of_z w64 next fx ∙ x;
      low = simp to_z-of_z c.ordinate-next.ensures.small;
    }
