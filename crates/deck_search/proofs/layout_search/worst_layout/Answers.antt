use Rattle.std.proofs.Common.{◌-◌, arith}
use Rattle.deck_search.proofs.Legal.{worst_legal}
use Rattle.deck_search.proofs.Sizes.{sum_small}
use Rattle.deck_search.proofs.layout_search.worst_layout.Goals as goal

pub returns : goal.returns
returns g c =
    let first = c.loop-most.invariant.fewer (omega arith) 0 _ (omega arith) (omega arith) in
    record {
      worst = worst_legal c.args.carriageway.now.deck (c.loop-most.most - 1) (omega arith) first.worst;
      small = sum_small c.args.carriageway.now.deck c.args.worths.now _ _ _ _ c.args.carriageway.now.widest first;
    }
