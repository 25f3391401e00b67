-- What a search of the worst arrangement answers and writes.
use Rattle.std.specs.Prelude.{◌≡◌, ℕ, Bool, false, List, ℤ, ◌≤ℤ◌}
use Rattle.lines.specs.Lines.{Line}
use Rattle.loads.specs.declared.decks.Deck.{Deck}
use Rattle.loads.specs.declared.load_sets.Loads.{Loads}
use Rattle.loads.specs.Decks.{Lane, Legal}
use Rattle.loads.specs.Sums.{traffic_sum}
use Rattle.traffic.specs.declared.records.Record.{Record}
use Rattle.traffic.specs.Records.{arrangement, Accepted}
use Rattle.search.specs.declared.directions.Direction.{Direction}
use Rattle.search.specs.declared.directions.Direction.TheVariants.{Up, Down}

-- The first sum goes no further than the second: it is at most that for up, and at least that for down.
abbrev pub NoFurther : Direction → ℤ → ℤ → Type 0
NoFurther Up q s = q ≤ℤ s
NoFurther Down q s = s ≤ℤ q

-- The record is in form and stands for a legal arrangement, the sum is its traffic sum, the count its number of lanes, and each legal arrangement, with p on any set of cells, has a sum that is within this one.
pub record FurthestFound (Within : ℤ → ℤ → Type 0) (t : Loads) (w : Deck) (l : Line) (ss : List ℤ) (sum : ℤ) (count : ℕ) (r : Record) : Type 0 where
  pub accepted : Accepted t w l r
  pub reached : sum ≡ traffic_sum l t ss (arrangement l t r)
  pub lanes : count ≡ r.count
  pub furthest : (lanes : List Lane) → Legal t w lanes → Within (traffic_sum l t ss lanes) sum

-- No legal arrangement has more, for up, or less, for down.
abbrev pub Found : Direction → Loads → Deck → Line → List ℤ → ℤ → ℕ → Record → Type 0
Found d = FurthestFound (NoFurther d)

-- The same in the words of a search, which knows only which of two sums goes further.
abbrev pub Reached : (ℤ → ℤ → Bool) → Loads → Deck → Line → List ℤ → ℤ → ℕ → Record → Type 0
Reached beyond = FurthestFound (λ q s. beyond q s ≡ false)
