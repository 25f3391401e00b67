use Rattle.loads.specs.Shares.{listed}
use Rattle.search.specs.Fillings.{place_for, lane_record}
use Rattle.search.proofs.Tables.{Laned}
use Rattle.search.proofs.fillings.Filling.write.Given as goal

abbrev pub invariant-loop-i : goal.invariant-loop-i
invariant-loop-i g l = Laned (lane_record (listed l.self.shares.now) (place_for l.self.on.now l.self.back.now)) l.slot-items l.i l.lanes
