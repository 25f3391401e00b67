-- Places whose loads go furthest, under other names and of two sets of loads.
use Rattle.std.proofs.Common.{◌≡◌, Bool, true, false, cond, ◌⊎◌, ℤ, sym, refl, inl, inr}
use Rattle.std.proofs.lemmas.Bool.{both_ways}
use Rattle.keeper.specs.Order.{Order, further_of}
use Rattle.keeper.specs.Worst.{Worst}
use Rattle.keeper.proofs.Steps.{worst_join}
use Rattle.lines.specs.Lines.{Line}
use Rattle.loads.specs.declared.load_sets.Loads.{Loads}
use Rattle.loads.specs.Loads.{Load, axles, vehicle, train, light, lane_effect}
use Rattle.lane_search.specs.declared.places.LanePlace.{LanePlace}
use Rattle.lane_search.specs.Places.{load_at, Kind, OfAxles, OfVehicle, OfTrain, Reaches}

-- the further of the furthest of two sets of loads
pub reaches_join : {beyond : ℤ → ℤ → Bool} (o : Order beyond) (l : Line) (t : Loads) (P Q R : Load → Type 0) (s u v : ℤ) (p q r : LanePlace)
    → Reaches beyond l t P s p → Reaches beyond l t Q u q → ((x : Load) → P x → R x) → ((x : Load) → Q x → R x) → ((x : Load) → R x → P x ⊎ Q x)
    → v ≡ further_of beyond u s u s → r ≡ further_of beyond u s q p → Reaches beyond l t R v r
reaches_join {beyond = beyond} o l t P Q R s u v p q r a b pr qr all ev er =
    rw (ev, er) (by (beyond u s) (worst_join o (lane_effect l t) P Q R s u (load_at l t p) (load_at l t q) a.furthest b.furthest pr qr all))
  where
    by : (further : Bool) → Worst beyond (lane_effect l t) R (cond further u s) (cond further (load_at l t q) (load_at l t p)) → Reaches beyond l t R (cond further u s) (cond further q p)
    by true w = record { furthest = w; unused = b.unused; small = b.small }
    by false w = record { furthest = w; unused = a.unused; small = a.small }

-- the loads of a heavy lane are the groups of axles, the vehicles and the trains
pub axles_heavy : (t : Loads) (x : Load) → OfAxles x → Kind t true x
axles_heavy t (axles g a) h = (refl, h)
axles_heavy t (vehicle a z) h = absurd h
axles_heavy t (train a z set) h = absurd h
axles_heavy t (light set) h = absurd h

pub vehicle_heavy : (t : Loads) (x : Load) → OfVehicle t x → Kind t true x
vehicle_heavy t (axles g a) h = absurd h
vehicle_heavy t (vehicle a z) h = (refl, h)
vehicle_heavy t (train a z set) h = absurd h
vehicle_heavy t (light set) h = absurd h

pub train_heavy : (t : Loads) (x : Load) → OfTrain t x → Kind t true x
train_heavy t (axles g a) h = absurd h
train_heavy t (vehicle a z) h = absurd h
train_heavy t (train a z set) h = (refl, h)
train_heavy t (light set) h = absurd h

pub heavy_kinds : (t : Loads) (x : Load) → Kind t true x → (OfAxles x ⊎ OfVehicle t x) ⊎ OfTrain t x
heavy_kinds t (axles g a) h = inl (inl h.1)
heavy_kinds t (vehicle a z) h = inl (inr h.1)
heavy_kinds t (train a z set) h = inr h.1
heavy_kinds t (light set) h = absurd (both_ways true (sym h.0) refl)
