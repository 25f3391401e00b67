-- One more lane before the worst of what may follow it.
use Rattle.std.proofs.Common.{◌≡◌, ℕ, ◌<◌, Bool, true, false, cond, ◌⊎◌, List, [], ◌∷◌, ℤ, ◌+ℤ◌, refl, ap, ◌∙◌, inl, inr, arith}
use Rattle.std.proofs.lemmas.Bool.{both_ways}
use Rattle.keeper.specs.Order.{Order, further_of}
use Rattle.keeper.specs.Worst.{Worst}
use Rattle.keeper.proofs.Steps.{worst_same, worst_join}
use Rattle.loads.specs.declared.decks.Deck.{Deck}
use Rattle.deck_search.specs.declared.layouts.Slot.{Slot}
use Rattle.deck_search.specs.declared.worths.Worths.{Worths}
use Rattle.deck_search.specs.Layouts.{worth, total}
use Rattle.deck_search.specs.Rooms.{keeps, Room, tried_of}
use Rattle.deck_search.proofs.Starts.{Led, Tried, Lighter, Heavier, begins, lighter_room, heavier_room}

module _ {beyond : ℤ → ℤ → Bool} (o : Order beyond) (ws : Worths) where
  led_worst : (l : Slot) (P : List Slot → Type 0) (t : ℤ) (q : List Slot) → Worst beyond (total ws) P t q → Worst beyond (total ws) (Led l P) (t +ℤ worth ws l) (l ∷ q)
  led_worst l P t q v = record { within = (refl, v.within); reached = ap (λ z. z +ℤ worth ws l) v.reached; none = by } where
    by : (x : List Slot) → Led l P x → beyond (total ws x) (t +ℤ worth ws l) ≡ false
    by [] h = absurd h
    by (x ∷ xs) h = rw h.0 (o.shift (total ws xs) t (worth ws l) ∙ v.none xs h.1)

  -- a lane that keeps within its width is offered, any other is not
  pub tried : (w : Deck) (l : Slot) (P Q : List Slot → Type 0) (s t u : ℤ) (p q r : List Slot) → Worst beyond (total ws) P s p → Worst beyond (total ws) Q t q →
      u ≡ tried_of beyond w ws l t s (t +ℤ worth ws l) s → r ≡ tried_of beyond w ws l t s (l ∷ q) p →
      Worst beyond (total ws) (λ x. P x ⊎ Tried w l Q x) u r
  tried w l P Q s t u p q r a b eu er = rw (eu, er) (by (keeps w l) refl) where
    by : (k : Bool) → keeps w l ≡ k → Worst beyond (total ws) (λ x. P x ⊎ Tried w l Q x)
        (cond k (further_of beyond (t +ℤ worth ws l) s (t +ℤ worth ws l) s) s)
        (cond k (further_of beyond (t +ℤ worth ws l) s (l ∷ q) p) p)
    by true e = worst_join o (total ws) P (Led l Q) _ s (t +ℤ worth ws l) p (l ∷ q) a (led_worst l Q t q b)
        (λ x h. inl h) (λ x h. inr (e, h)) (λ x h. elim h [ inl y ↦ inl y | inr y ↦ inr y.1 ])
    by false e = worst_same _ a (λ x h. inl h) (λ x h. elim h [ inl y ↦ y | inr y ↦ absurd (both_ways (keeps w l) e y.0) ])

-- these are all, where no lane may be heavy
pub no_heavy : {beyond : ℤ → ℤ → Bool} {f : List Slot → ℤ} {u : ℤ} {p : List Slot} (w : Deck) (h s : ℕ) → h ≡ 0 → Worst beyond f (Lighter w h s) u p → Worst beyond f (Room w h s) u p
no_heavy w h s e v =
    worst_same (Room w h s) v (lighter_room w h s)
    (λ x r. elim (begins w h s x r) [ inl a ↦ a | inr t ↦ absurd (omega (arith, t.0)) ])

-- and else those with the heavy lane that begins at s
pub some_heavy : {beyond : ℤ → ℤ → Bool} {f : List Slot → ℤ} {u : ℤ} {p : List Slot} (w : Deck) (h s : ℕ) → 0 < h → Worst beyond f (λ x. Lighter w h s x ⊎ Heavier w h s x) u p → Worst beyond f (Room w h s) u p
some_heavy w h s lt v =
    worst_same (Room w h s) v
    (λ x a. elim a [ inl b ↦ lighter_room w h s x b | inr t ↦ heavier_room w h s x lt t ])
    (λ x r. elim (begins w h s x r) [ inl a ↦ inl a | inr t ↦ inr t.1 ])
