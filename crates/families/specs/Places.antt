-- The place of a line's number in a list.
use Rattle.std.specs.Prelude.{◌≡◌, ℕ, ◌<◌, ◌⊎◌, ℤ, pos, ◌≤ℤ◌, ◌<ℤ◌, Some, None, Option}

-- The place of the number z among n lines, or that it has none.
abbrev pub Placed : ℕ → ℤ → Option ℕ → Type 0
Placed n z (Some i) = (z ≡ pos i) × (i < n)
Placed n z None = (z <ℤ pos 0) ⊎ (pos n ≤ℤ z)
