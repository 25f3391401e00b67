use Rattle.std.proofs.Common.{◌≡◌, length}
use Rattle.deck_search.specs.Rooms.{Row}
use Rattle.deck_search.proofs.layout_search.Search.row.Given as goal

abbrev pub invariant-loop-s : goal.invariant-loop-s
invariant-loop-s g l = record {
  kept : Row g.S.Sense.beyond l.self.deck l.self.worths.now l.most l.s l.cells;
  long : length l.cells ≡ 133;
}
