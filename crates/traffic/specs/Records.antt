-- The record of an arrangement: its form, and which arrangement it stands for.
use Rattle.std.specs.Prelude.{◌≡◌, ℕ, ◌≤◌, Bool, false, not, ◌&&◌, List, map, take, drop, ℤ, pos, negsuc, Option, int_lt}
use Rattle.std.specs.List.{AllByRecursion}
use Rattle.loads.specs.declared.load_sets.Group.TheVariants.{Single, Bogie12, Bogie21, Triple211, Triple121, Triple112}
use Rattle.loads.specs.declared.decks.Deck.{Deck}
use Rattle.loads.specs.declared.load_sets.Loads.{Loads}
use Rattle.traffic.specs.declared.records.Code.{Code}
use Rattle.traffic.specs.declared.records.Code.TheVariants as code
use Rattle.traffic.specs.declared.records.Sign.{Sign}
use Rattle.traffic.specs.declared.records.Sign.TheVariants as sign
use Rattle.traffic.specs.declared.records.LaneRecord.{LaneRecord}
use Rattle.traffic.specs.declared.records.Record.{Record}
use Rattle.std.specs.declared.option.Option.TheVariants as option
use Rattle.lines.specs.Lines.{Line}
use Rattle.lines.specs.Cells.{double_area, block}
use Rattle.loads.specs.Loads.{Load, axles, vehicle, train, light}
use Rattle.loads.specs.Decks.{Lane, Legal}
use Rattle.loads.specs.Sums.{traffic_sum}

-- The load codes by their numbers.
abbrev pub code_number : Code → ℕ
code_number code.Light = 0
code_number (code.Axles Single) = 1
code_number (code.Axles Bogie12) = 2
code_number (code.Axles Bogie21) = 3
code_number (code.Axles Triple211) = 4
code_number (code.Axles Triple121) = 5
code_number (code.Axles Triple112) = 6
code_number code.Vehicle = 7
code_number code.Train = 8

-- The p signs by their numbers.
abbrev pub sign_number : Sign → ℤ
sign_number sign.Below = negsuc 0
sign_number sign.None = pos 0
sign_number sign.Above = pos 1

-- Whether a sign fills an allowed cell of this double area.
abbrev pub fills : Sign → ℤ → Bool
fills sign.None d = false
fills sign.Above d = int_lt (pos 0) d
fills sign.Below d = int_lt d (pos 0)

-- The cells of the line that a sign fills.
abbrev pub of_sign : Line → Sign → ℕ → Bool
of_sign l s k = fills s (double_area l k)

-- The same without the cells under a train of n mm that starts at a.
abbrev pub beside_train : Line → ℕ → Sign → ℤ → ℕ → Bool
beside_train l n s a k = not (block a n k) && of_sign l s k

abbrev pub load_of : Line → Loads → Code → ℤ → ℤ → Sign → Load
load_of l t code.Light a z s = light (of_sign l s)
load_of l t (code.Axles g) a z s = axles g a
load_of l t code.Vehicle a z s = vehicle a z
load_of l t code.Train a z s = train a z (beside_train l t.train.length s a)

abbrev pub lane_of : Line → Loads → LaneRecord → Lane
lane_of l t x = record { centre = x.centre; load = load_of l t x.code x.a x.z x.sign }

-- The arrangement that a record stands for.
abbrev pub arrangement : Line → Loads → Record → List Lane
arrangement l t r = map (lane_of l t) (take r.count r.lanes)

-- An unused field is 0.
abbrev pub Unused : Code → ℤ → ℤ → Sign → Type 0
Unused code.Light a z s = (a ≡ pos 0) × (z ≡ pos 0)
Unused (code.Axles g) a z s = (z ≡ pos 0) × (s ≡ sign.None)
Unused code.Vehicle a z s = s ≡ sign.None
Unused code.Train a z s = Unit {0}

abbrev pub blank : LaneRecord
blank = record { centre = pos 0; code = code.Light; a = pos 0; z = pos 0; sign = sign.None }

pub record InForm (r : Record) : Type 0 where
  pub count : r.count ≤ 6
  pub unused : AllByRecursion (λ x. Unused x.code x.a x.z x.sign) (take r.count r.lanes)
  pub past : AllByRecursion (λ x. x ≡ blank) (drop r.count r.lanes)

-- The record is in form, and what it stands for is legal.
pub record Accepted (t : Loads) (w : Deck) (l : Line) (r : Record) : Type 0 where
  pub form : InForm r
  pub legal : Legal t w (arrangement l t r)

-- What weighing a record answers: the traffic sum of what it stands for, or nothing where it is not in form or not legal.
abbrev pub Weighed : Loads → Deck → Line → List ℤ → Record → Option ℤ → Type 0
Weighed t w l ss r (option.Some q) = Accepted t w l r × (q ≡ traffic_sum l t ss (arrangement l t r))
Weighed t w l ss r option.None = Accepted t w l r → ⊥
