use Rattle.std.proofs.Common.{rules}
use borrow.Author.Tests.{tests}
use Rattle.std.proofs.lemmas.Iterator.{cases_from_all, YieldsList-from_slice}
use Rattle.loads.specs.Decks.{Within}
use Rattle.traffic.specs.Records.{lane_of, blank}
use Rattle.traffic.proofs.Deciding.{decides_stood}
use Rattle.traffic.proofs.legal.all_within.Goals as goal

pub returns : goal.returns
returns c l t =
    let P = Within c.args.deck in
    let xs = c.args.lanes.now in
    decides_stood P (lane_of l t) xs blank _
    (cases_from_all _ _ _ (λ x. P (lane_of l t x)) (λ x. P (lane_of l t x) → ⊥) c.all.ensures.ran (YieldsList-from_slice xs cc) (λ x q k. search (rules, tests)) (λ x q k. search (rules, tests)))
