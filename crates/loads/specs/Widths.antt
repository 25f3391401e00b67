-- What a carriageway is asked.
use Rattle.std.specs.Prelude.{◌≡◌, ℕ, ◌+◌, Bool, cond, ℤ, pos, ◌+ℤ◌, ◌≤ℤ◌, Ok, Err, Result}
use Rattle.lines.specs.Asks.{Asks, none, ask, AllYes, FirstNo}
use Rattle.loads.specs.declared.carriageways.Carriageway.{Carriageway}
use Rattle.loads.specs.declared.carriageways.WidthQuestion.{WidthQuestion}
use Rattle.loads.specs.declared.carriageways.WidthQuestion.TheVariants.{Widest, Narrowest}

abbrev pub width_number : WidthQuestion → ℕ
width_number Widest = 1
width_number Narrowest = 2

-- Is the clear width at most 120? Is it, with 2 for each raised edge, at least 30?
abbrev pub width_questions : ℤ → Bool → Bool → Asks WidthQuestion
width_questions w left right =
    ask Widest 0 (w ≤ℤ pos 120) (ask Narrowest 0 (pos 30 ≤ℤ (w +ℤ pos (cond left 2 0 + cond right 2 0))) none)

-- A carriageway of these figures, or the first question that is answered no.
abbrev pub Widened : ℤ → Bool → Bool → Result Carriageway WidthQuestion → Type 0
Widened w left right (Ok c) = AllYes (width_questions w left right) × (pos c.deck.width ≡ w) × (c.deck.left ≡ left) × (c.deck.right ≡ right)
Widened w left right (Err q) = FirstNo (width_questions w left right) q 0
