use Rattle.std.proofs.Common.{arith, SFits, w32, rules}
use borrow.Author.Differences.{ints}
use Rattle.traffic.proofs.records.LaneRecord.is_on_block.Goals as goal

pub returns-then-self : goal.returns-then-self
returns-then-self c =
    let fa : SFits w32 c.args.self.now.a = search rules in
    let fz : SFits w32 c.args.self.now.z = search rules in
    (λ e. record { low = grind (arith, ints); high = grind (arith, ints) }, λ h. grind (arith, ints))
