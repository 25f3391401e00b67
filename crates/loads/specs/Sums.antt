-- The traffic sum, when it overloads a member, and the permitted classes.
use Rattle.std.specs.Prelude.{Any, ℕ, ◌*◌, ◌≤◌, Bool, true, false, ◌⊎◌, List, [], ◌∷◌, ℤ, pos, negsuc, ◌+ℤ◌, ◌*ℤ◌, neg_ℤ, ◌<ℤ◌, Some, None, Option, slice_index_or}
use Rattle.lines.specs.Lines.{Line}
use Rattle.loads.specs.declared.decks.Deck.{Deck}
use Rattle.loads.specs.declared.classes.Class.{Class}
use Rattle.loads.specs.declared.load_sets.Loads.{Loads}
use Rattle.loads.specs.declared.strengths.Figures.{Figures}
use Rattle.loads.specs.Classes.{class_number, loads}
use Rattle.loads.specs.Loads.{lane_effect}
use Rattle.loads.specs.Decks.{Lane, Legal}

-- The share in percent at a centre, of shares that are given for the centres from 0 on.
abbrev pub share : List ℤ → ℤ → ℤ
share ss (pos c) = slice_index_or ss c (pos 0)
share ss (negsuc c) = pos 0

-- Share × E of one lane.
abbrev pub shared : Line → Loads → List ℤ → Lane → ℤ
shared l t ss x = share ss x.centre *ℤ lane_effect l t x.load

-- The traffic sum Q.
abbrev pub traffic_sum : Line → Loads → List ℤ → List Lane → ℤ
traffic_sum l t ss [] = pos 0
traffic_sum l t ss (x ∷ xs) = shared l t ss x +ℤ traffic_sum l t ss xs

-- The three sums of the dead load G and the traffic sum Q; u is the unit of the traffic sum.
abbrev pub three_sums : ℤ → ℤ → ℤ → List ℤ
three_sums u g q =
    (pos 23 *ℤ u *ℤ g +ℤ pos 28 *ℤ q) ∷ ((pos 20 *ℤ u *ℤ g +ℤ pos 28 *ℤ q) ∷ ((pos 20 *ℤ u *ℤ g +ℤ pos 24 *ℤ q) ∷ []))

-- One of the three sums keeps P.
abbrev pub OneOfThree : (ℤ → Type 0) → ℤ → ℤ → ℤ → Type 0
OneOfThree P u g q = Any P (three_sums u g q)

-- One kN of dead load or capacity is this much of a traffic sum.
abbrev pub unit : Line → ℤ
unit l = pos (22400000 * l.scale)

-- A capacity not given is not checked.
abbrev pub Given : (ℤ → Type 0) → Option ℤ → Type 0
Given P None = ⊥
Given P (Some capacity) = P capacity

-- One of the sums is above the up capacity, or below the down capacity, in the unit u.
abbrev pub AboveUp : ℤ → Figures → ℤ → Type 0
AboveUp u f q = Given (λ capacity. OneOfThree (λ s. (pos 20 *ℤ u *ℤ capacity) <ℤ s) u f.dead q) f.up

abbrev pub BelowDown : ℤ → Figures → ℤ → Type 0
BelowDown u f q = Given (λ capacity. OneOfThree (λ s. s <ℤ neg_ℤ (pos 20 *ℤ u *ℤ capacity)) u f.dead q) f.down

abbrev pub Overloaded : Line → Figures → ℤ → Type 0
Overloaded l f q = AboveUp (unit l) f q ⊎ BelowDown (unit l) f q

-- The class of a number is permitted when no legal arrangement of it, or of any class below it, overloads the member. So none, which is 0, always is.
abbrev pub Permitted : Deck → Line → Figures → List ℤ → ℕ → Type 0
Permitted w l f ss n =
    (c : Class) → class_number c ≤ n → (lanes : List Lane) → Legal (loads c) w lanes → Overloaded l f (traffic_sum l (loads c) ss lanes) → ⊥

-- Some legal arrangement of a class overloads the member, or none does.
abbrev pub Settled : Deck → Line → Figures → List ℤ → Class → Bool → Type 0
Settled w l f ss c true = (lanes : List Lane) × Legal (loads c) w lanes × Overloaded l f (traffic_sum l (loads c) ss lanes)
Settled w l f ss c false = (lanes : List Lane) → Legal (loads c) w lanes → Overloaded l f (traffic_sum l (loads c) ss lanes) → ⊥

-- A member's class is the highest permitted one.
pub record IsClass (w : Deck) (l : Line) (f : Figures) (ss : List ℤ) (n : ℕ) : Type 0 where
  pub number : n ≤ 4
  pub permitted : Permitted w l f ss n
  pub highest : (k : ℕ) → k ≤ 4 → Permitted w l f ss k → k ≤ n

-- The class number of a class or none.
abbrev pub number_of : Option Class → ℕ
number_of None = 0
number_of (Some c) = class_number c
