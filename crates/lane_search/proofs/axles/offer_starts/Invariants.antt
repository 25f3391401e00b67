use Rattle.std.proofs.Common.{ℤ, negsuc, ◌≤ℤ◌}
use Rattle.keeper.specs.Worst.{Worst, Between}
use Rattle.lane_search.specs.Groups.{Computes}
use Rattle.lane_search.proofs.axles.offer_starts.Given as goal

abbrev pub invariant-loop-start : goal.invariant-loop-start
invariant-loop-start g l = record {
  worst : (f : ℤ → ℤ) → Computes (goal.F-post g l.effect) l.fn.from l.to f
      → Worst g.S.Sense.beyond f (Between (negsuc 15999) l.fn.from) l.fn.before.sum l.fn.before.place
      → Worst g.S.Sense.beyond f (Between (negsuc 15999) l.start) l.best.sum l.best.place;
  low : l.fn.from ≤ℤ l.start;
  high : l.start ≤ℤ l.to;
}
