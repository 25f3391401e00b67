use Rattle.std.proofs.Common.{◌≡◌, ℕ, Bool, ◌*◌, ◌≤◌, pos, nat_abs}
use Rattle.lines.specs.Lines.{ordinate_or_zero}
use Rattle.lines.specs.Cells.{under}
use Rattle.traffic.specs.Sets.{Takes}
use Rattle.traffic.proofs.cells.areas_of.Given as goal

abbrev pub invariant-loop-k : goal.invariant-loop-k
invariant-loop-k g l =
    let line = g.L.InfluenceLine.line l.line in
    record {
      value : (set : ℕ → Bool) → Takes line (goal.T-post g l.takes) set → l.sum ≡ under line set l.k;
      small : nat_abs l.sum ≤ l.k * 2000000;
      here : l.here ≡ ordinate_or_zero line (pos l.k);
      low : nat_abs l.here ≤ 1000000;
    }
