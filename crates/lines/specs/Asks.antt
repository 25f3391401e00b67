-- Questions put in order, of which the first no counts.
use Rattle.std.specs.Prelude.{◌≡◌, ℕ, ◌⊎◌}

-- A question, the place that a no blames, what a yes says, and the questions after it.
pub data Asks (Q : Type 0) : Type 1 where
  none : Asks Q
  ask : Q → ℕ → Type 0 → Asks Q → Asks Q

abbrev pub AllYes : {Q : Type 0} → Asks Q → Type 0
AllYes none = Unit {0}
AllYes (ask p n P ps) = P × AllYes ps

-- The question q, which blames the place m, is the first that is answered no.
abbrev pub FirstNo : {Q : Type 0} → Asks Q → Q → ℕ → Type 0
FirstNo none q m = ⊥
FirstNo (ask p n P ps) q m = ((P → ⊥) × (q ≡ p) × (m ≡ n)) ⊎ (P × FirstNo ps q m)
