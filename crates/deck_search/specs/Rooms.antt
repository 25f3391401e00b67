-- What the search keeps: the layouts that stand right of a place.
use Rattle.std.specs.Prelude.{◌≡◌, ℕ, ◌+◌, ◌<◌, ◌≤◌, Bool, true, cond, ◌&&◌, List, [], ◌∷◌, length, ℤ, ◌+ℤ◌, nat_le, slice_index_or}
use Rattle.keeper.specs.Order.{further_of}
use Rattle.keeper.specs.Worst.{Worst}
use Rattle.keeper.specs.declared.keepers.Keeper.{Keeper}
use Rattle.loads.specs.declared.decks.Deck.{Deck}
use Rattle.loads.specs.Decks.{half, past}
use Rattle.deck_search.specs.declared.layouts.Slot.{Slot}
use Rattle.deck_search.specs.declared.layouts.Layout.{Layout}
use Rattle.deck_search.specs.declared.worths.Worths.{Worths}
use Rattle.deck_search.specs.Layouts.{slot_heavies, worth, total, slots_of}

-- The test that a lane keeps within the width that it may use.
abbrev pub keeps : Deck → Slot → Bool
keeps w x = nat_le (half x.heavy) (x.centre + past x.heavy w.left) && nat_le (x.centre + half x.heavy) (w.width + past x.heavy w.right)

-- The lanes keep within that width, and each stands right of the one before it, the first right of s; s counts from 2 dm left of the clear width.
abbrev pub Stand : Deck → ℕ → List Slot → Type 0
Stand w s [] = Unit {0}
Stand w s (x ∷ xs) = (s + half x.heavy ≤ x.centre + 2) × (keeps w x ≡ true) × Stand w (x.centre + 2 + half x.heavy) xs

-- The layouts right of s with at most h heavy lanes.
abbrev pub Room : Deck → ℕ → ℕ → List Slot → Type 0
Room w h s xs = Stand w s xs × (slot_heavies xs ≤ h)

-- Of y and z: y where the lane keeps within its width and its sum before the rest goes further than the old sum, else z.
abbrev pub tried_of : {X : Type 0} → (ℤ → ℤ → Bool) → Deck → Worths → Slot → ℤ → ℤ → X → X → X
tried_of beyond w ws x rest old y z = cond (keeps w x) (further_of beyond (rest +ℤ worth ws x) old y z) z

-- What the search keeps for the layouts right of s with at most h heavy lanes.
pub record Cell (beyond : ℤ → ℤ → Bool) (w : Deck) (ws : Worths) (h s : ℕ) (sum : ℤ) (place : Layout) : Type 0 where
  pub worst : Worst beyond (total ws) (Room w h s) sum (slots_of place)

-- Each cell from i on keeps what it is for.
abbrev pub Row : {S : Type 0} → (ℤ → ℤ → Bool) → Deck → Worths → ℕ → ℕ → List (Keeper S Layout) → Type 0
Row {S} beyond w ws h i cells = (k : ℕ) (d : Keeper S Layout) → i ≤ k → k < length cells → Cell beyond w ws h k (slice_index_or cells k d).sum (slice_index_or cells k d).place
