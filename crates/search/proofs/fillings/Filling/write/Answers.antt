use Rattle.std.proofs.Common.{arith}
use Rattle.loads.specs.Shares.{listed}
use Rattle.search.specs.Fillings.{place_for, lane_record}
use Rattle.search.proofs.Tables.{lanes_turn}
use Rattle.search.proofs.fillings.Filling.write.Goals as goal

pub loop-i-preserved : goal.loop-i-preserved
loop-i-preserved g c =
    lanes_turn (lane_record (listed c.args.self.now.shares.now) (place_for c.args.self.now.on.now c.args.self.now.back.now)) _ c.loop-i.i _ _ c.filled.result c.loop-i.invariant (omega (arith, c.args.layout.now.few)) (omega arith) c.filled.ensures
