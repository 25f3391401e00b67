use Rattle.std.proofs.Common.{◌≡◌, ◌-◌, ◌<◌, length}
use Rattle.deck_search.specs.Rooms.{Row}
use Rattle.deck_search.proofs.layout_search.worst_layout.Given as goal

abbrev pub invariant-loop-most : goal.invariant-loop-most
invariant-loop-most g l = record {
  fewer : 0 < l.most → Row g.S.Sense.beyond l.carriageway.deck l.worths (l.most - 1) 0 l.cells;
  long : length l.cells ≡ 133;
}
