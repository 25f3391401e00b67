-- Lines that are given by runs, on each of which the ordinate grows evenly.
use Rattle.std.specs.Prelude.{ℕ, zero, suc, ◌-◌, ◌<◌, ◌≤◌, cond, List, [], ◌∷◌, length, ℤ, pos, ◌+ℤ◌, sum_by, nat_lt, slice_index_or}
use Rattle.std.proofs.lemmas.List.Sums.{get_or-le-sum_by}
use Rattle.std.proofs.Common.{arith}
use Rattle.lines.specs.Lines.{Line, Limits}
use Rattle.lines.specs.Asks.{Asks}
use Rattle.families.specs.declared.questions.Question.{Question}
use Rattle.families.specs.declared.rows.RunHead.{RunHead}
use Rattle.families.specs.declared.rows.Run.{Run}
use Rattle.families.specs.Drafts.{Draft, drafts, lines_of, size, questions, Counted, Scaled, Sized, Bounded}
use Rattle.families.specs.DraftLimits.{draft_limits}
use Rattle.families.specs.Own.{Each}

abbrev pub no_run_head : RunHead
no_run_head = record { scale = pos 0; runs = 0 }

abbrev pub no_run : Run
no_run = record { length = pos 0; rise = pos 0 }

abbrev pub run_size : Run → ℕ
run_size r = size r.length

-- The rise over the millimetre from x to x + 1: that of the run it lies in.
abbrev pub rise_at : List Run → ℕ → ℤ
rise_at [] x = pos 0
rise_at (r ∷ rs) x = cond (nat_lt x (run_size r)) r.rise (rise_at rs (x - run_size r))

-- The ordinate is 0 at 0, and grows by the rise at each millimetre.
abbrev pub climb : List Run → ℕ → ℤ
climb rs zero = pos 0
climb rs (suc x) = climb rs x +ℤ rise_at rs x

-- The line from 0 to the end of the last run.
abbrev pub run_line : ℕ → List Run → Line
run_line s rs = record { len = sum_by run_size rs; scale = s; ordinate = climb rs }

-- No run is shorter than 1.
abbrev pub NoShort : List Run → Type 0
NoShort rs = (k : ℕ) → k < length rs → 1 ≤ run_size (slice_index_or rs k no_run)

-- There is a run, and none is shorter than 1.
abbrev pub Rowed : List Run → Type 0
Rowed rs = (1 ≤ length rs) × NoShort rs

abbrev pub run_draft : RunHead → List Run → Draft
run_draft h rs = record { enough = Rowed rs; line = run_line (size h.scale) rs }

abbrev pub run_drafts : List RunHead → List Run → List Draft
run_drafts hs rs = drafts (λ h. h.runs) run_draft hs rs

abbrev pub run_lines : List RunHead → List Run → List Line
run_lines hs rs = lines_of (run_drafts hs rs)

abbrev pub run_questions : List RunHead → List Run → Asks Question
run_questions hs rs = questions (λ h. h.runs) run_draft hs rs

-- a line of a run that is not shorter than 1 is at least a millimetre long
pub run_long : (h : RunHead) (rs : List Run) → Scaled (run_draft h rs) → Sized (run_draft h rs) → 1 ≤ (run_draft h rs).line.len
run_long h rs scaled sized =
    let first = sized.0.1 0 sized.0.0 in
    let all = get_or-le-sum_by run_size rs 0 no_run sized.0.0 in
    omega arith

pub run_limits : (hs : List RunHead) (rs : List Run) → Counted (λ h. h.runs) hs rs → Each (λ h. h.runs) (λ h rs. Scaled (run_draft h rs)) hs rs no_run_head → Each (λ h. h.runs) (λ h rs. Sized (run_draft h rs)) hs rs no_run_head → Each (λ h. h.runs) (λ h rs. Bounded (run_draft h rs)) hs rs no_run_head → Limits (run_lines hs rs)
run_limits hs rs = draft_limits (λ h. h.runs) run_draft hs rs no_run_head run_long
