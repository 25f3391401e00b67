use Rattle.std.proofs.Common.{refl, ap, arith}
use Rattle.deck_search.specs.Layouts.{slots_of}
use Rattle.deck_search.proofs.Filling.{row_first}
use Rattle.deck_search.proofs.layout_search.Search.row.Goals as goal

pub loop-s-init : goal.loop-s-init
loop-s-init g c =
    record { kept = row_first g.S.Sense.order _ _ _ _ c.new-cells.result c.args.self.now.widest (omega arith) c.new-cells.ensures.sum (ap slots_of c.new-cells.ensures.place); long = refl }
