-- The loads that a search of a lane goes over, and what it answers.
use Rattle.std.specs.Prelude.{◌≡◌, ◌≤◌, Bool, ℤ, unsigned_abs}
use Rattle.keeper.specs.Worst.{Worst}
use Rattle.lines.specs.Lines.{Line}
use Rattle.loads.specs.declared.load_sets.Loads.{Loads}
use Rattle.loads.specs.Loads.{Load, axles, vehicle, train, light, lane_effect}
use Rattle.loads.specs.Decks.{heavy, Start, Placed}
use Rattle.traffic.specs.Records.{load_of, Unused}
use Rattle.lane_search.specs.declared.places.LanePlace.{LanePlace}

-- The load that a place stands for.
abbrev pub load_at : Line → Loads → LanePlace → Load
load_at l t p = load_of l t p.code p.a p.z p.sign

-- A load of a heavy lane, or of a light one, where it may stand.
abbrev pub Kind : Loads → Bool → Load → Type 0
Kind t h x = (heavy x ≡ h) × Placed t x

-- The heavy loads by their kinds: groups of axles, vehicles, trains.
abbrev pub OfAxles : Load → Type 0
OfAxles (axles g a) = Start a
OfAxles (vehicle a z) = ⊥
OfAxles (train a z set) = ⊥
OfAxles (light set) = ⊥

abbrev pub OfVehicle : Loads → Load → Type 0
OfVehicle t (axles g a) = ⊥
OfVehicle t (vehicle a z) = Placed t (vehicle a z)
OfVehicle t (train a z set) = ⊥
OfVehicle t (light set) = ⊥

abbrev pub OfTrain : Loads → Load → Type 0
OfTrain t (axles g a) = ⊥
OfTrain t (vehicle a z) = ⊥
OfTrain t (train a z set) = Placed t (train a z set)
OfTrain t (light set) = ⊥

-- Of the loads that P names, the place stands for one whose effect goes furthest; its unused fields are 0, and the sum, its effect, is no larger than an effect can be.
pub record Reaches (beyond : ℤ → ℤ → Bool) (l : Line) (t : Loads) (P : Load → Type 0) (s : ℤ) (p : LanePlace) : Type 0 where
  pub furthest : Worst beyond (lane_effect l t) P s (load_at l t p)
  pub unused : Unused p.code p.a p.z p.sign
  pub small : unsigned_abs s ≤ 330000000000000
