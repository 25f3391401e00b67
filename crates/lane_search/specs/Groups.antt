-- Groups of axles, as three weights and by their numbers.
use Rattle.std.specs.Prelude.{◌≡◌, ℕ, ◌≤◌, ℤ, pos, ◌+ℤ◌, ◌*ℤ◌}
use Rattle.keeper.specs.Worst.{Between}
use Rattle.lines.specs.Lines.{Line, ordinate_or_zero}
use Rattle.loads.specs.declared.load_sets.Group.{Group}
use Rattle.loads.specs.Decks.{Start}
use Rattle.loads.specs.Loads.{Load, axles, vehicle, train, light}
use Rattle.traffic.specs.declared.records.Code.TheVariants as code
use Rattle.traffic.specs.Records.{code_number}

-- Weight × ordinate at each of three axles.
abbrev pub of_three : ℕ × ℕ × ℕ → ℤ → ℤ → ℤ → ℤ
of_three ws y u v = pos ws.0 *ℤ y +ℤ (pos ws.1 *ℤ u +ℤ pos ws.2 *ℤ v)

-- The same with the first axle at a and each other d further on.
unfoldable pub at_three : Line → ℕ → ℕ × ℕ × ℕ → ℤ → ℤ
at_three l d ws a = of_three ws (ordinate_or_zero l a) (ordinate_or_zero l (a +ℤ pos d)) (ordinate_or_zero l (a +ℤ pos d +ℤ pos d))

-- What a call at any place from lo up to hi, hi left out, may return is the effect f there.
abbrev pub Computes : (ℤ → ℤ → Type 0) → ℤ → ℤ → (ℤ → ℤ) → Type 0
Computes post lo hi f = (a y : ℤ) → Between lo hi a → post a y → y ≡ f a

-- No axle weighs more than a load set allows.
abbrev pub Limited : ℕ × ℕ × ℕ → Type 0
Limited ws = (ws.0 ≤ 200) × (ws.1 ≤ 200) × (ws.2 ≤ 200)

-- The load code of a group.
abbrev pub number : Group → ℕ
number g = code_number (code.Axles g)

-- One group of axles.
abbrev pub OfGroup : Group → Load → Type 0
OfGroup g (axles g' a) = (g' ≡ g) × Start a
OfGroup g (vehicle a z) = ⊥
OfGroup g (train a z set) = ⊥
OfGroup g (light set) = ⊥

-- The groups up to a load code.
abbrev pub UpTo : ℕ → Load → Type 0
UpTo n (axles g a) = (number g ≤ n) × Start a
UpTo n (vehicle a z) = ⊥
UpTo n (train a z set) = ⊥
UpTo n (light set) = ⊥
