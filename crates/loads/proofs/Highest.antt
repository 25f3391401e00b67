-- The highest class of which neither it nor any below it overloads a member.
use Rattle.std.proofs.Common.{ℕ, ◌+◌, ◌<◌, ◌≤◌, true, false, List, ℤ, ⊎_elim, arith}
use Rattle.std.proofs.lemmas.Bool.{cases_lt}
use Rattle.lines.specs.Lines.{Line}
use Rattle.loads.specs.declared.decks.Deck.{Deck}
use Rattle.loads.specs.declared.strengths.Figures.{Figures}
use Rattle.loads.specs.declared.classes.Class.{Class}
use Rattle.loads.specs.declared.classes.Class.TheVariants.{Bk6, Bk8, BkT8, Bk10}
use Rattle.loads.specs.Classes.{class_number}
use Rattle.loads.specs.Sums.{Permitted, Settled, IsClass}

-- a class that overloads bounds the permitted ones
bounded : (w : Deck) (l : Line) (f : Figures) (ss : List ℤ) (c : Class) → Settled w l f ss c true → (k : ℕ) → Permitted w l f ss k → k < class_number c
bounded w l f ss c s k p = ⊎_elim (λ h. h) (λ h. absurd (p c h s.0 s.1 s.2)) (cases_lt k (class_number c))

pub permitted : (w : Deck) (l : Line) (f : Figures) (ss : List ℤ) (n : ℕ) → (1 ≤ n → Settled w l f ss Bk6 false) → (2 ≤ n → Settled w l f ss Bk8 false) → (3 ≤ n → Settled w l f ss BkT8 false) → (4 ≤ n → Settled w l f ss Bk10 false) → Permitted w l f ss n
permitted w l f ss n a b c d Bk6 h = a h
permitted w l f ss n a b c d Bk8 h = b h
permitted w l f ss n a b c d BkT8 h = c h
permitted w l f ss n a b c d Bk10 h = d h

pub none_at : (w : Deck) (l : Line) (f : Figures) (ss : List ℤ) (c : Class) (m n : ℕ) → n < m → m ≤ n → Settled w l f ss c false
none_at w l f ss c m n h k = absurd (omega arith)

pub class_below : (w : Deck) (l : Line) (f : Figures) (ss : List ℤ) (n : ℕ) (c : Class) → n < class_number c → class_number c ≤ n + 1 → n ≤ 4 → Permitted w l f ss n → Settled w l f ss c true → IsClass w l f ss n
class_below w l f ss n c low high few p s = record {
  number = few;
  permitted = p;
  highest = λ k _ q. let h = bounded w l f ss c s k q in omega arith;
}
