use Rattle.std.proofs.Common.{length}
use Rattle.loads.proofs.Centres.{padded_small}
use Rattle.loads.proofs.sharing.kept.Goals as goal

pub invariant_of-result-clause-fair : goal.invariant_of-result-clause-fair
invariant_of-result-clause-fair c = padded_small c.args.given.now _ (length c.args.given.now) 121 c.copy_from_slice.ensures.after c.requires.fair
