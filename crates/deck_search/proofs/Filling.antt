-- A row of cells that is filled from its end.
use Rattle.std.proofs.Common.{◌≡◌, ℕ, ◌<◌, ◌≤◌, Bool, List, [], replicate, ℤ, pos, refl, arith}
use Rattle.std.proofs.lemmas.List.{get_or-replicate, length-replicate}
use Rattle.keeper.specs.Order.{Order}
use Rattle.keeper.specs.Worst.{Worst}
use Rattle.keeper.specs.declared.keepers.Keeper.{Keeper}
use Rattle.keeper.proofs.Steps.{worst_first}
use Rattle.loads.specs.declared.decks.Deck.{Deck}
use Rattle.deck_search.specs.declared.layouts.Slot.{Slot}
use Rattle.deck_search.specs.declared.layouts.Layout.{Layout}
use Rattle.deck_search.specs.declared.worths.Worths.{Worths}
use Rattle.deck_search.specs.Layouts.{total, slots_of}
use Rattle.deck_search.specs.Rooms.{Room, Row}
use Rattle.deck_search.proofs.Starts.{none_past}

module _ {beyond : ℤ → ℤ → Bool} (o : Order beyond) (w : Deck) (ws : Worths) where
  -- near the right edge there is room for no lane
  no_room : (h s : ℕ) (u : ℤ) (xs : List Slot) → w.width ≤ 120 → 102 < s → u ≡ pos 0 → xs ≡ [] → Worst beyond (total ws) (Room w h s) u xs
  no_room h s u xs wide lt e n =
      rw (e, n) (worst_first o (total ws) (Room w h s) (pos 0) [] (tt, omega arith) refl (λ x r. none_past w s x wide lt r.0))

  pub row_first : {S : Type 0} (h i : ℕ) (x : Keeper S Layout) → w.width ≤ 120 → 102 < i → x.sum ≡ pos 0 → slots_of x.place ≡ [] → Row beyond w ws h i (replicate 133 x)
  row_first h i x wide last e n k d le lt =
      let lt' : k < 133 = simp length-replicate at lt in
      rw (get_or-replicate 133 k x d lt') record { worst = no_room h k x.sum (slots_of x.place) wide (omega arith) e n }
