-- Figures worked out by hand, on one small line.
use Rattle.std.specs.Prelude.{◌≡◌, ℕ, zero, suc, ◌-◌, Bool, true, false, List, [], ◌∷◌, ◌++◌, length, replicate, ℤ, pos, negsuc}
use Rattle.std.specs.List.{AllByRecursion}
use Rattle.loads.specs.declared.classes.Class.TheVariants.{Bk10}
use Rattle.loads.specs.declared.load_sets.Group.TheVariants.{Single, Bogie12}
use Rattle.loads.specs.declared.decks.Deck.{Deck}
use Rattle.traffic.specs.declared.records.Code.{Code}
use Rattle.traffic.specs.declared.records.Code.TheVariants.{Light, Axles, Vehicle, Train}
use Rattle.traffic.specs.declared.records.Sign.{Sign}
use Rattle.traffic.specs.declared.records.Sign.TheVariants.{None, Above, Below}
use Rattle.traffic.specs.declared.records.LaneRecord.{LaneRecord}
use Rattle.traffic.specs.declared.records.Record.{Record}
use Rattle.lines.specs.Lines.{Line}
use Rattle.loads.specs.Classes.{loads}
use Rattle.loads.specs.Sums.{traffic_sum}
use Rattle.loads.specs.Decks.{Legal}
use Rattle.traffic.specs.Records.{arrangement, blank, InForm, Accepted}

-- The tooth: ordinates 0 1 2 1 0, scale 1.
abbrev pub tooth_at : ℕ → ℤ
tooth_at zero = pos 0
tooth_at (suc zero) = pos 1
tooth_at (suc (suc zero)) = pos 2
tooth_at (suc (suc (suc zero))) = pos 1
tooth_at (suc (suc (suc (suc n)))) = pos 0

abbrev pub tooth : Line
tooth = record { len = 4; scale = 1; ordinate = tooth_at }

abbrev lane : ℤ → Code → ℤ → ℤ → Sign → LaneRecord
lane c k a z s = record { centre = c; code = k; a = a; z = z; sign = s }

abbrev pub record_of : List LaneRecord → Record
record_of xs = record { count = length xs; lanes = xs ++ replicate (6 - length xs) blank }

-- What a hand found: the traffic sum of Bk 10 at share 100, or only whether the record, which is in form, is legal.
pub data Found : Type 0 where
  sum : ℤ → Found
  legally : Found
  illegally : Found

pub record Figure : Type 0 where
  pub deck : Deck
  pub lanes : List LaneRecord
  pub found : Found

abbrev deck : ℕ → Bool → Bool → Deck
deck w l r = record { width = w; left = l; right = r }

-- One lane with centre 15 on a deck of 30 without raised edges.
abbrev alone : Code → ℤ → ℤ → Sign → Found → Figure
alone k a z s f = record { deck = deck 30 false false; lanes = lane (pos 15) k a z s ∷ []; found = f }

abbrev axle_at : ℤ → LaneRecord
axle_at c = lane c (Axles Single) (pos 0) (pos 0) None

abbrev light_at : ℤ → LaneRecord
light_at c = lane c Light (pos 0) (pos 0) None

abbrev pub figures : List Figure
figures =
    alone (Axles Single) (pos 2) (pos 0) None (sum (pos 7168000000))
    ∷ alone (Axles Bogie12) (negsuc 1297) (pos 0) None (sum (pos 7168000000))
    ∷ alone Vehicle (pos 0) (pos 2) None (sum (pos 1795840000))
    ∷ alone Vehicle (negsuc 6997) (pos 2) None (sum (pos 1793920000))
    ∷ alone Train (pos 2) (pos 2) Above (sum (pos 1793668800))
    ∷ alone Light (pos 0) (pos 0) Above (sum (pos 537600))
    ∷ alone Light (pos 0) (pos 0) Below (sum (pos 0))
    ∷ alone Vehicle (pos 0) (pos 7001) None illegally
    ∷ record { deck = deck 56 true true; lanes = axle_at (pos 13) ∷ axle_at (pos 43) ∷ []; found = legally }
    ∷ record { deck = deck 55 true true; lanes = axle_at (pos 13) ∷ axle_at (pos 43) ∷ []; found = illegally }
    ∷ record { deck = deck 48 true false; lanes = axle_at (pos 13) ∷ light_at (pos 38) ∷ []; found = legally }
    ∷ record { deck = deck 30 false false; lanes = light_at (pos 9) ∷ []; found = illegally }
    ∷ record { deck = deck 30 true false; lanes = light_at (pos 9) ∷ []; found = illegally }
    ∷ []

abbrev pub HoldsOf : Deck → Record → Found → Type 0
HoldsOf w r (sum q) = Accepted (loads Bk10) w tooth r × (traffic_sum tooth (loads Bk10) (replicate 31 (pos 100)) (arrangement tooth (loads Bk10) r) ≡ q)
HoldsOf w r legally = Accepted (loads Bk10) w tooth r
HoldsOf w r illegally = InForm r × (Legal (loads Bk10) w (arrangement tooth (loads Bk10) r) → ⊥)

abbrev pub Holds : Figure → Type 0
Holds f = HoldsOf f.deck (record_of f.lanes) f.found

-- Every figure is what the definitions say.
abbrev pub FiguresHold : Type 0
FiguresHold = AllByRecursion Holds figures
