-- Lanes across a carriageway, and which arrangements of them are legal.
use Rattle.std.specs.Prelude.{◌≡◌, ℕ, ◌+◌, ◌≤◌, Bool, true, false, cond, ◌&&◌, List, [], ◌∷◌, ℤ, pos, negsuc, ◌+ℤ◌, ◌-ℤ◌, neg_ℤ, ◌≤ℤ◌}
use Rattle.std.specs.List.{AllByRecursion}
use Rattle.lines.specs.Cells.{block}
use Rattle.loads.specs.declared.decks.Deck.{Deck}
use Rattle.loads.specs.declared.load_sets.Loads.{Loads}
use Rattle.loads.specs.Loads.{Load, axles, vehicle, train, light}

-- A lane: its centre, in dm from the left edge of the clear width, and what it carries. An arrangement, in the wide sense, is a list of lanes from left to right.
pub record Lane : Type 0 where
  pub centre : ℤ
  pub load : Load

-- A heavy lane carries a load of the load set, a light one p alone.
abbrev pub heavy : Load → Bool
heavy (axles g a) = true
heavy (vehicle a z) = true
heavy (train a z set) = true
heavy (light set) = false

-- Half the width that a lane covers.
abbrev pub half : Bool → ℕ
half heavy = cond heavy 15 10

abbrev pub left_side : Lane → ℤ
left_side x = x.centre -ℤ pos (half (heavy x.load))

abbrev pub right_side : Lane → ℤ
right_side x = x.centre +ℤ pos (half (heavy x.load))

-- How far a lane may reach past an edge of the clear width: a heavy one by 2 where the edge is raised.
abbrev pub past : Bool → Bool → ℕ
past heavy raised = cond (heavy && raised) 2 0

-- A lane covers nothing outside the width that it may use.
pub record Within (w : Deck) (x : Lane) : Type 0 where
  pub from : neg_ℤ (pos (past (heavy x.load) w.left)) ≤ℤ left_side x
  pub to : right_side x ≤ℤ pos (w.width + past (heavy x.load) w.right)

-- A lane ends where the next one begins, or before: lanes may touch.
abbrev pub Before : Lane → List Lane → Type 0
Before x [] = Unit {0}
Before x (y ∷ ys) = right_side x ≤ℤ left_side y

abbrev pub Apart : List Lane → Type 0
Apart [] = Unit {0}
Apart (x ∷ xs) = Before x xs × Apart xs

abbrev pub heavies : List Lane → ℕ
heavies [] = 0
heavies (x ∷ xs) = cond (heavy x.load) 1 0 + heavies xs

-- A first axle or block start.
pub record Start (a : ℤ) : Type 0 where
  pub low : negsuc 15999 ≤ℤ a
  pub high : a ≤ℤ pos 100000

-- A lies on the block or its ends.
pub record OnBlock (a : ℤ) (n : ℕ) (z : ℤ) : Type 0 where
  pub low : a ≤ℤ z
  pub high : z ≤ℤ (a +ℤ pos n)

-- A load of the set stands where it may, and p of a train only on cells outside its block.
abbrev pub Placed : Loads → Load → Type 0
Placed t (axles g a) = Start a
Placed t (vehicle a z) = Start a × OnBlock a t.vehicle.length z
Placed t (train a z set) = Start a × OnBlock a t.train.length z × ((k : ℕ) → set k ≡ true → block a t.train.length k ≡ false)
Placed t (light set) = Unit {0}

-- A legal arrangement of the load set on the carriageway. No lane at all is legal too.
pub record Legal (t : Loads) (w : Deck) (lanes : List Lane) : Type 0 where
  pub within : AllByRecursion (Within w) lanes
  pub apart : Apart lanes
  pub two_heavy : heavies lanes ≤ 2
  pub placed : AllByRecursion (λ x. Placed t x.load) lanes
