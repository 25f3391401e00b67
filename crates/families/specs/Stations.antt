-- Lines that are given by ordinates at stations of equal steps.
use Rattle.std.specs.Prelude.{ℕ, ◌+◌, ◌-◌, ◌*◌, ◌/◌, ◌%◌, ◌≤◌, List, length, ℤ, pos, ◌+ℤ◌, ◌*ℤ◌, slice_index_or}
use Rattle.std.proofs.Common.{mul-le-mul, arith}
use Rattle.lines.specs.Lines.{Line, Limits}
use Rattle.lines.specs.Asks.{Asks}
use Rattle.families.specs.declared.questions.Question.{Question}
use Rattle.families.specs.declared.rows.StationHead.{StationHead}
use Rattle.families.specs.Drafts.{Draft, drafts, lines_of, size, questions, Counted, Scaled, Sized, Bounded}
use Rattle.families.specs.DraftLimits.{draft_limits}
use Rattle.families.specs.Own.{Each}

abbrev pub no_station_head : StationHead
no_station_head = record { step = pos 0; stations = 0 }

-- The ordinate at x of stations d apart: with x = j * d + r it is (d - r) times that of station j and r times that of the next.
abbrev pub between : ℕ → List ℤ → ℕ → ℤ
between d ys x = pos (d - x % d) *ℤ slice_index_or ys (x / d) (pos 0) +ℤ pos (x % d) *ℤ slice_index_or ys (x / d + 1) (pos 0)

-- The line from the first station to the last. Its scale is the step.
abbrev pub station_line : ℕ → List ℤ → Line
station_line d ys = record { len = d * (length ys - 1); scale = d; ordinate = between d ys }

abbrev pub station_draft : StationHead → List ℤ → Draft
station_draft h ys = record { enough = 2 ≤ length ys; line = station_line (size h.step) ys }

abbrev pub station_drafts : List StationHead → List ℤ → List Draft
station_drafts hs ys = drafts (λ h. h.stations) station_draft hs ys

abbrev pub station_lines : List StationHead → List ℤ → List Line
station_lines hs ys = lines_of (station_drafts hs ys)

abbrev pub station_questions : List StationHead → List ℤ → Asks Question
station_questions hs ys = questions (λ h. h.stations) station_draft hs ys

-- a line of two stations and a step is at least a millimetre long
pub station_long : (h : StationHead) (ys : List ℤ) → Scaled (station_draft h ys) → Sized (station_draft h ys) → 1 ≤ (station_draft h ys).line.len
station_long h ys scaled sized = let two = sized.0 in let steps : 1 ≤ length ys - 1 = omega arith in mul-le-mul scaled.0 steps

pub station_limits : (hs : List StationHead) (ys : List ℤ) → Counted (λ h. h.stations) hs ys → Each (λ h. h.stations) (λ h ys. Scaled (station_draft h ys)) hs ys no_station_head → Each (λ h. h.stations) (λ h ys. Sized (station_draft h ys)) hs ys no_station_head → Each (λ h. h.stations) (λ h ys. Bounded (station_draft h ys)) hs ys no_station_head → Limits (station_lines hs ys)
station_limits hs ys = draft_limits (λ h. h.stations) station_draft hs ys no_station_head station_long
