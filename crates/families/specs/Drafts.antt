-- What heads draft from rows, and the questions that are asked before the drafts are influence lines.
use Rattle.std.specs.Prelude.{◌≡◌, ℕ, suc, ◌≤◌, List, [], ◌∷◌, map, length, take, drop, ℤ, pos, negsuc, Some, None, Ok, Err, sum_by, Option, Result, unsigned_abs}
use Rattle.lines.specs.Lines.{Line}
use Rattle.lines.specs.Asks.{Asks, none, ask, AllYes, FirstNo}
use Rattle.families.specs.declared.questions.Question.{Question}
use Rattle.families.specs.declared.questions.Question.TheVariants.{Rows, Scale, Length, Ordinates}
use Rattle.families.specs.declared.questions.Refusal.{Refusal}

-- The numbers of the questions.
abbrev pub number_of : Question → ℕ
number_of Rows = 16
number_of Scale = 17
number_of Length = 18
number_of Ordinates = 19

-- A step, scale or length of the heads and rows as a size: below 0 it is none.
abbrev pub size : ℤ → ℕ
size (pos n) = n
size (negsuc n) = 0

-- A draft is a line that is yet to be asked whether it keeps its limits. `enough` says that it has as many rows as a line needs, and that none is too short.
pub record Draft : Type 1 where
  pub enough : Type 0
  pub line : Line

-- Is the step or scale from 1 to 1,000?
abbrev pub Scaled : Draft → Type 0
Scaled d = (1 ≤ d.line.scale) × (d.line.scale ≤ 1000)

-- Are there at least two stations, or one run, no run shorter than 1, and is the length at most 100,000?
abbrev pub Sized : Draft → Type 0
Sized d = d.enough × (d.line.len ≤ 100000)

-- Does every ordinate keep its limits?
abbrev pub Bounded : Draft → Type 0
Bounded d = (x : ℕ) → x ≤ d.line.len → unsigned_abs (d.line.ordinate x) ≤ 1000000

-- Heads take their rows one after the other: each as many as it counts, from where the head before it left off.
abbrev pub drafts : {T R : Type 0} → (T → ℕ) → (T → List R → Draft) → List T → List R → List Draft
drafts taken draft [] rs = []
drafts taken draft (h ∷ hs) rs = draft h (take (taken h) rs) ∷ drafts taken draft hs (drop (taken h) rs)

abbrev pub lines_of : List Draft → List Line
lines_of ds = map (λ d. d.line) ds

-- The lines that heads draft from rows.
abbrev pub drafted_lines : {T R : Type 0} → (T → ℕ) → (T → List R → Draft) → List T → List R → List Line
drafted_lines taken draft hs rs = lines_of (drafts taken draft hs rs)

-- Are there at most 16 heads, and do their counts add up to the rows given?
abbrev pub Counted : {T R : Type 0} → (T → ℕ) → List T → List R → Type 0
Counted taken hs rs = (length hs ≤ 16) × (sum_by taken hs ≡ length rs)

-- What is asked of the draft of head i, and then the rest.
abbrev pub asked_of : ℕ → Draft → Asks Question → Asks Question
asked_of i d rest = ask Scale i (Scaled d) (ask Length i (Sized d) (ask Ordinates i (Bounded d) rest))

-- What is asked of the drafts of the heads from i on.
abbrev pub asked_from : ℕ → List Draft → Asks Question
asked_from i [] = none
asked_from i (d ∷ ds) = asked_of i d (asked_from (suc i) ds)

-- What heads and rows are asked, in this order. The first question blames head 0.
abbrev pub questions : {T R : Type 0} → (T → ℕ) → (T → List R → Draft) → List T → List R → Asks Question
questions taken draft hs rs = ask Rows 0 (Counted taken hs rs) (asked_from 0 (drafts taken draft hs rs))

-- A check tells that every question is answered yes, or the first no and the head that it blames.
abbrev pub Tells : Asks Question → Result (Unit {0}) Refusal → Type 0
Tells qs (Ok _) = AllYes qs
Tells qs (Err f) = FirstNo qs f.question f.head

-- What a draft alone is found to be.
abbrev pub Found : Draft → Option Question → Type 0
Found d None = Scaled d × Sized d × Bounded d
Found d (Some q) = FirstNo (asked_of 0 d none) q 0
