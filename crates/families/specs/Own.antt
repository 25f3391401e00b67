-- The rows of one head among many.
use Rattle.std.specs.Prelude.{ℕ, ◌<◌, List, length, take, drop, sum_by, slice_index_or}

-- Where the rows of head i begin: after those of the heads before it.
abbrev pub start : {T : Type 0} → (T → ℕ) → List T → ℕ → ℕ
start taken hs i = sum_by taken (take i hs)

-- The rows of head i; the head d is read where there is none.
abbrev pub own : {T R : Type 0} → (T → ℕ) → List T → List R → ℕ → T → List R
own taken hs rs i d = take (taken (slice_index_or hs i d)) (drop (start taken hs i) rs)

-- P of each head and its rows.
abbrev pub Each : {T R : Type 0} → (T → ℕ) → (T → List R → Type 0) → List T → List R → T → Type 0
Each taken P hs rs d = (i : ℕ) → i < length hs → P (slice_index_or hs i d) (own taken hs rs i d)
