use Rattle.std.proofs.Common.{rules}
use borrow.Author.Tests.{tests}
use Rattle.std.proofs.lemmas.Iterator.{cases_from_all, YieldsList-from_slice}
use Rattle.loads.specs.Decks.{Lane, Placed}
use Rattle.traffic.specs.Records.{lane_of, blank}
use Rattle.traffic.proofs.Deciding.{decides_stood}
use Rattle.traffic.proofs.legal.all_placed.Goals as goal

pub returns : goal.returns
returns c l =
    let t = c.args.loads.now in
    let P = λ (x : Lane). Placed t x.load in
    let xs = c.args.lanes.now in
    decides_stood P (lane_of l t) xs blank _
    (cases_from_all _ _ _ (λ x. P (lane_of l t x)) (λ x. P (lane_of l t x) → ⊥) c.all.ensures.ran (YieldsList-from_slice xs cc) (λ x q k. search (rules, tests)) (λ x q k. search (rules, tests)))
