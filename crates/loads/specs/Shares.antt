-- What shares are asked, and what they stand for.
use Rattle.std.specs.Prelude.{◌≡◌, ℕ, ◌+◌, ◌<◌, ◌≤◌, List, length, take, ℤ, pos, Ok, Err, Result, slice_index_or, unsigned_abs}
use Rattle.lines.specs.Asks.{Asks, none, ask, AllYes, FirstNo}
use Rattle.loads.specs.declared.shares.Shares.{Shares}
use Rattle.loads.specs.declared.shares.ShareQuestion.{ShareQuestion}
use Rattle.loads.specs.declared.shares.ShareQuestion.TheVariants.{Count, Size}

abbrev pub share_number : ShareQuestion → ℕ
share_number Count = 7
share_number Size = 8

-- The shares for the centres from 0 to the clear width.
abbrev pub listed : Shares → List ℤ
listed s = take (s.width + 1) s.percents

abbrev pub FairShares : List ℤ → Type 0
FairShares ss = (k : ℕ) → k < length ss → unsigned_abs (slice_index_or ss k (pos 0)) ≤ 100

-- Is there a share for each centre from 0 to the clear width? Is each from -100 to 100?
abbrev pub share_questions : ℕ → List ℤ → Asks ShareQuestion
share_questions width ss = ask Count 0 (length ss ≡ width + 1) (ask Size 0 (FairShares ss) none)

-- These shares, or the first question that is answered no.
abbrev pub Shared : ℕ → List ℤ → Result Shares ShareQuestion → Type 0
Shared width ss (Ok s) = AllYes (share_questions width ss) × (s.width ≡ width) × (listed s ≡ ss)
Shared width ss (Err q) = FirstNo (share_questions width ss) q 0
