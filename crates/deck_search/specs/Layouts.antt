-- Layouts of lanes across a carriageway: which are legal, and what they add to the sum.
use Rattle.std.specs.Prelude.{ℕ, ◌+◌, ◌≤◌, Bool, cond, List, [], ◌∷◌, map, take, ℤ, pos, ◌+ℤ◌, ◌-ℤ◌, neg_ℤ, ◌≤ℤ◌, slice_index_or}
use Rattle.std.specs.List.{AllByRecursion}
use Rattle.loads.specs.declared.decks.Deck.{Deck}
use Rattle.loads.specs.Decks.{half, past}
use Rattle.deck_search.specs.declared.layouts.Slot.{Slot}
use Rattle.deck_search.specs.declared.layouts.Layout.{Layout}
use Rattle.deck_search.specs.declared.worths.Worth.{Worth}
use Rattle.deck_search.specs.declared.worths.Worths.{Worths}

-- The sides of a lane, in dm from the left edge of the clear width.
abbrev pub slot_left : Slot → ℤ
slot_left x = pos x.centre -ℤ pos (half x.heavy)

abbrev pub slot_right : Slot → ℤ
slot_right x = pos x.centre +ℤ pos (half x.heavy)

-- A lane covers nothing outside the width that it may use.
pub record SlotWithin (w : Deck) (x : Slot) : Type 0 where
  pub from : neg_ℤ (pos (past x.heavy w.left)) ≤ℤ slot_left x
  pub to : slot_right x ≤ℤ pos (w.width + past x.heavy w.right)

-- A lane ends where the next one begins, or before: lanes may touch.
abbrev pub SlotBefore : Slot → List Slot → Type 0
SlotBefore x [] = Unit {0}
SlotBefore x (y ∷ ys) = slot_right x ≤ℤ slot_left y

abbrev pub SlotsApart : List Slot → Type 0
SlotsApart [] = Unit {0}
SlotsApart (x ∷ xs) = SlotBefore x xs × SlotsApart xs

abbrev pub slot_heavies : List Slot → ℕ
slot_heavies [] = 0
slot_heavies (x ∷ xs) = cond x.heavy 1 0 + slot_heavies xs

-- A legal layout, from left to right. No lane at all is legal too.
pub record LegalLayout (w : Deck) (slots : List Slot) : Type 0 where
  pub within : AllByRecursion (SlotWithin w) slots
  pub apart : SlotsApart slots
  pub two_heavy : slot_heavies slots ≤ 2

-- What a lane adds to the sum, by its kind and centre, and a layout.
abbrev pub of_kind : Bool → Worth → ℤ
of_kind heavy v = cond heavy v.heavy v.light

abbrev pub worth : Worths → Slot → ℤ
worth ws x = slice_index_or (map (of_kind x.heavy) ws.by_centre) x.centre (pos 0)

abbrev pub total : Worths → List Slot → ℤ
total ws [] = pos 0
total ws (x ∷ xs) = total ws xs +ℤ worth ws x

abbrev pub slots_of : Layout → List Slot
slots_of p = take p.count p.slots
