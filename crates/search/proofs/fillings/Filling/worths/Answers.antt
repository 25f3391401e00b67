use Rattle.std.proofs.Common.{◌≡◌, pos, arith, w32, to_z, of_z}
use Rattle.std.proofs.lemmas.Int.{ints}
use Rattle.search.proofs.Tables.{worths_turn}
use Rattle.search.proofs.fillings.Filling.worths.Goals as goal

pub loop-k-preserved : goal.loop-k-preserved
loop-k-preserved g c =
    let e : to_z w32 (of_z w32 (pos c.loop-k.k)) ≡ pos c.loop-k.k = omega (arith, ints) in
    λ h. worths_turn _ h c.loop-k.k _ _ (omega arith) (rw e at (c.worth.ensures h)) (c.loop-k.invariant h)
