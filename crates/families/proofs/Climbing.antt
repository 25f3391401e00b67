-- The ordinates of runs: at the end of each run, on the way to it, and how large they are.
use Rattle.std.proofs.Common.{◌≡◌, ℕ, zero, suc, ◌+◌, ◌-◌, ◌*◌, ◌<◌, ◌≤◌, List, [], ◌∷◌, length, get_or, take, ℤ, pos, negsuc, ◌+ℤ◌, ◌*ℤ◌, nat_abs, sym, ap, ◌∙◌, subst, ⊎_elim, le_of_suc-le-suc, not-suc-le-zero, add-zero, add-suc, mul-le-mul_right, zero-add, arith}
use lib.IntN.{zero-*ℤ, suc_ℤ-*ℤ}
use borrow.Author.Differences.{ints}
use Rattle.std.proofs.lemmas.List.Sums.{sum_by-cons, sum_by_more}
use Rattle.std.proofs.lemmas.Bool.{cases_lt, cond-true, cond-false, lt-ltb, le-ltb}
use Rattle.families.specs.declared.rows.Run.{Run}
use Rattle.families.specs.Runs.{run_size, rise_at, climb, no_run}
use Rattle.families.specs.Own.{start}

-- the rise inside run k
rise_here : (rs : List Run) (k t : ℕ) → k < length rs → t < run_size (get_or rs k no_run) → rise_at rs (start run_size rs k + t) ≡ (get_or rs k no_run).rise
rise_here [] k t h l = absurd (not-suc-le-zero h)
rise_here (r ∷ rs) zero t h l = ap (rise_at (r ∷ rs)) (zero-add t) ∙ cond-true _ _ _ (lt-ltb t (run_size r) l)
rise_here (r ∷ rs) (suc k) t h l =
    let e = sum_by-cons run_size r (take k rs) in
    let n = start run_size (r ∷ rs) (suc k) + t in
    let past : run_size r ≤ n = omega arith in
    let left : n - run_size r ≡ start run_size rs k + t = omega arith in
    cond-false _ _ _ (le-ltb n (run_size r) past) ∙ ap (rise_at rs) left ∙ rise_here rs k t (le_of_suc-le-suc h) l

-- the ordinate t millimetres into run k
pub climb_at : (rs : List Run) (k t : ℕ) → k < length rs → t ≤ run_size (get_or rs k no_run) → climb rs (start run_size rs k + t) ≡ climb rs (start run_size rs k) +ℤ pos t *ℤ (get_or rs k no_run).rise
climb_at rs k zero h l = let z = zero-*ℤ (get_or rs k no_run).rise in ap (climb rs) (add-zero (start run_size rs k)) ∙ omega (arith, ints)
climb_at rs k (suc t) h l =
    let s = start run_size rs k in
    let a = climb_at rs k t h (omega arith) in
    let b = rise_here rs k t h l in
    let c = suc_ℤ-*ℤ (pos t) (get_or rs k no_run).rise in
    ap (climb rs) (add-suc s t) ∙ omega (arith, ints)

-- an ordinate that is within limits at both ends of a run is so on the way
even : (y r : ℤ) (t n m : ℕ) → t ≤ n → nat_abs y ≤ m → nat_abs (y +ℤ pos n *ℤ r) ≤ m → nat_abs (y +ℤ pos t *ℤ r) ≤ m
even y (pos c) t n m h p q = let k : t * c ≤ n * c = mul-le-mul_right c h in omega (arith, ints)
even y (negsuc c) t n m h p q = let k : t * suc c ≤ n * suc c = mul-le-mul_right (suc c) h in omega (arith, ints)

-- the ordinate at the end of run k
pub climb_end : (rs : List Run) (k : ℕ) → k < length rs → climb rs (start run_size rs (k + 1)) ≡ climb rs (start run_size rs k) +ℤ pos (run_size (get_or rs k no_run)) *ℤ (get_or rs k no_run).rise
climb_end rs k h = ap (climb rs) (sum_by_more run_size rs k no_run h) ∙ climb_at rs k (run_size (get_or rs k no_run)) h (omega arith)

pub climb_more : (rs : List Run) (k m : ℕ) → k < length rs → ((x : ℕ) → x ≤ start run_size rs k → nat_abs (climb rs x) ≤ m) → nat_abs (climb rs (start run_size rs (k + 1))) ≤ m → (x : ℕ) → x ≤ start run_size rs (k + 1) → nat_abs (climb rs x) ≤ m
climb_more rs k m h before end x l =
    let s = start run_size rs k in
    let n = run_size (get_or rs k no_run) in
    let r = (get_or rs k no_run).rise in
    let e = sum_by_more run_size rs k no_run h in
    ⊎_elim
    (λ a. before x (omega arith))
    (λ a.
    let t = x - s in
    let at : s + t ≡ x = omega arith in
    let here = climb_at rs k t h (omega arith) in
    let last = subst (λ z. nat_abs z ≤ m) (climb_end rs k h) end in
    subst (λ z. nat_abs z ≤ m) (sym (ap (climb rs) (sym at) ∙ here)) (even (climb rs s) r t n m (omega arith) (before s (omega arith)) last))
    (cases_lt x s)
