use Rattle.std.proofs.Common.{◌≡◌, ℕ, ◌+◌, ◌<◌, Bool, [], ◌∷◌, get_or, ℤ, arith}
use Rattle.lines.specs.Lines.{Line}
use Rattle.loads.specs.declared.load_sets.Loads.{Loads}
use Rattle.loads.specs.declared.load_sets.Group.{Group}
use Rattle.loads.specs.declared.load_sets.Group.TheVariants.{Bogie12, Bogie21, Triple211, Triple121, Triple112}
use Rattle.lane_search.specs.declared.places.LanePlace.{LanePlace}
use Rattle.lane_search.specs.Groups.{number, UpTo}
use Rattle.lane_search.specs.Places.{Reaches}
use Rattle.lane_search.proofs.axles.furthest_axles.Goals as goal

-- the groups stand in the order of their codes
in_order : (k : ℕ) (g : Group) → k < 5 → number (get_or (Bogie12 ∷ Bogie21 ∷ Triple211 ∷ Triple121 ∷ Triple112 ∷ []) k g) ≡ k + 1 + 1
in_order k g h = grind arith

up_to : {beyond : ℤ → ℤ → Bool} {l : Line} {t : Loads} {s : ℤ} {p : LanePlace} (g : Group) (n : ℕ) → Reaches beyond l t (UpTo (number g)) s p → number g ≡ n → Reaches beyond l t (UpTo n) s p
up_to g n r e = rw (← e) r

pub loop-group-preserved : goal.loop-group-preserved
loop-group-preserved g c = up_to _ _ c.offer_group.ensures (in_order _ _ c.loop-group-test.true)
