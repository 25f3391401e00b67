use Rattle.std.proofs.Common.{arith}
use borrow.Author.Differences.{ints}
use Rattle.std.proofs.lemmas.Int.{to_z-of_z}
use Rattle.families.proofs.station_head.Step.weighed.Goals as goal

pub returns : goal.returns
returns c = grind (arith, ints, to_z-of_z)
