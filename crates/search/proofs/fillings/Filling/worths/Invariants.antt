use Rattle.std.proofs.Common.{◌≡◌, ℕ, ◌<◌, Bool, map, get_or, pos}
use Rattle.loads.specs.Shares.{listed}
use Rattle.loads.specs.Sums.{share}
use Rattle.deck_search.specs.Layouts.{of_kind}
use Rattle.search.specs.Fillings.{added_by, sum_in}
use Rattle.search.proofs.fillings.Filling.worths.Given as goal

abbrev pub invariant-loop-k : goal.invariant-loop-k
invariant-loop-k g l =
    (h : Bool) (j : ℕ) → j < l.k → get_or (map (of_kind h) l.worth-items) j (pos 0) ≡ added_by (share (listed l.self.shares.now) (pos j)) (sum_in l.self.on.now h) (sum_in l.self.back.now h)
