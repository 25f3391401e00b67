use Rattle.std.proofs.Common.{sym}
use Rattle.keeper.proofs.Signs.{upwards, downwards}
use Rattle.lane_search.proofs.lane_loads.sign_of.Goals as goal

pub returns-then-further : goal.returns-then-further
returns-then-further g c = λ d. sym (upwards g.S.Sense.order (sym c.if-further.ensures) d)

pub returns-else-further : goal.returns-else-further
returns-else-further g c = λ d. sym (downwards g.S.Sense.order (sym c.if-further.ensures) d)
