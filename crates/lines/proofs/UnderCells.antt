-- The double areas under a set of cells: one cell more, none more, and bounds.
use Rattle.std.proofs.Common.{◌≡◌, ℕ, zero, suc, ◌+◌, ◌-◌, ◌*◌, ◌<◌, ◌≤◌, Bool, true, false, cond, ltb, ℤ, pos, negsuc, ◌+ℤ◌, nat_abs, ◌≤ℤ◌, ◌<ℤ◌, sym, refl, ap, ◌∙◌, ⊎_elim, zero-le, add-zero, add-one, arith}
use borrow.Author.Differences.{ints}
use Rattle.std.proofs.lemmas.Bool.{cond_both, cond-true, lt-ltb, cases_lt}
use Rattle.std.specs.Int.{saturate_to_bits}
use Rattle.lines.specs.Lines.{Line}
use Rattle.lines.specs.Cells.{double_area, cell_area, under, areas, block, clip}
use Rattle.lines.proofs.Bounds.{Mild}

pub under_more : (l : Line) (p : ℕ → Bool) (k : ℕ) → under l p (k + 1) ≡ under l p k +ℤ cond (p k) (double_area l k) (pos 0)
unfolding under
under_more l p k = ap (under l p) (add-one k)

-- cells that are not in the set add nothing
pub under_same : (l : Line) (p : ℕ → Bool) (m n : ℕ) → m ≤ n → ((k : ℕ) → m ≤ k → k < n → p k ≡ false) → under l p n ≡ under l p m
unfolding under
under_same l p m zero h none = let e : m ≡ 0 = omega arith in rw e refl
under_same l p m (suc n) h none =
    ⊎_elim
    (λ k. let r = under_same l p m n (omega arith) (λ j a b. none j a (omega arith)) in rw (none n (omega arith) (omega arith)) (omega (arith, ints)))
    (λ k. let e : m ≡ suc n = omega arith in rw e refl)
    (cases_lt m (suc n))

pub area_small : (l : Line) → Mild l → (k : ℕ) → nat_abs (double_area l k) ≤ 2000000
area_small l m k = let a = m.small (pos k) in let b = m.small (pos (k + 1)) in omega (arith, ints)

part_small : (l : Line) → Mild l → (p : ℕ → Bool) (k : ℕ) → nat_abs (cond (p k) (double_area l k) (pos 0)) ≤ 2000000
part_small l m p k = cond_both (p k) (double_area l k) (pos 0) (λ y. nat_abs y ≤ 2000000) (λ _. area_small l m k) (λ _. omega arith)

under_bound : (l : Line) → Mild l → (p : ℕ → Bool) (k : ℕ) → nat_abs (under l p k) ≤ k * 2000000
unfolding under
under_bound l m p zero = omega arith
under_bound l m p (suc k) = let a = under_bound l m p k in let b = part_small l m p k in omega (arith, ints)

pub under_small : (l : Line) → Mild l → (p : ℕ → Bool) (k : ℕ) → k ≤ 100000 → nat_abs (under l p k) ≤ 200000000000
under_small l m p k h = let a = under_bound l m p k in omega arith

-- the double area of a cell that is there
pub cell_at : (l : Line) (k : ℕ) → k < l.len → cell_area l (pos k) ≡ double_area l k
cell_at l k h = cond-true (ltb k l.len) (double_area l k) (pos 0) (lt-ltb k l.len h)

-- a place on the stretch, against the one that was clipped
below_clip : (m : ℕ) (z : ℤ) (k : ℕ) → k < clip m z → pos k <ℤ z
below_clip m (pos x) k h = omega (arith, ints)
below_clip m (negsuc x) k h = absurd (omega arith)

from_clip : (m : ℕ) (z : ℤ) (k : ℕ) → clip m z ≤ k → k < m → z ≤ℤ pos k
from_clip m (pos x) k h j = omega (arith, ints)
from_clip m (negsuc x) k h j = omega (arith, ints)

pub clip_high : (m : ℕ) (z : ℤ) → clip m z ≤ m
clip_high m (pos x) = omega arith
clip_high m (negsuc x) = omega arith

pub clip_mono : (m : ℕ) (y z : ℤ) → y ≤ℤ z → clip m y ≤ clip m z
clip_mono m (pos y) (pos z) h = omega (arith, ints)
clip_mono m (pos y) (negsuc z) h = absurd h.le
clip_mono m (negsuc y) z h = zero-le

pub clip_saturated : (m : ℕ) (z : ℤ) → m ≤ 100000 → clip m (saturate_to_bits 63 z) ≡ clip m z
clip_saturated m (pos x) h = omega arith
clip_saturated m (negsuc x) h = refl

-- the cells before a block, and those past it, are not in it; those between are
pub before_block : (a : ℤ) (n m k : ℕ) → k < clip m a → block a n k ≡ false
before_block a n m k h = let p = below_clip m a k h in grind (arith, ints)

pub in_block : (a : ℤ) (n m k : ℕ) → clip m a ≤ k → k < clip m (a +ℤ pos n) → block a n k ≡ true
in_block a n m k h j =
    let q = below_clip m (a +ℤ pos n) k j in
    let p = from_clip m a k h (omega (arith, clip_high m (a +ℤ pos n))) in
    grind (arith, ints)

pub past_block : (a : ℤ) (n m k : ℕ) → clip m (a +ℤ pos n) ≤ k → k < m → block a n k ≡ false
past_block a n m k h j = let p = from_clip m (a +ℤ pos n) k h j in grind (arith, ints)

-- the double areas under a block, from its first cell on the line to its last
pub block_none : (l : Line) (a : ℤ) (n m : ℕ) → pos 0 ≡ under l (block a n) (clip m a)
unfolding under
block_none l a n m = sym (under_same l (block a n) 0 (clip m a) zero-le (λ k _ h. before_block a n m k h))

pub block_more : (l : Line) (a : ℤ) (n m k : ℕ) → clip m a ≤ k → k < clip m (a +ℤ pos n) → under l (block a n) (k + 1) ≡ under l (block a n) k +ℤ double_area l k
block_more l a n m k h j = under_more l (block a n) k ∙ ap (λ (b : Bool). under l (block a n) k +ℤ cond b (double_area l k) (pos 0)) (in_block a n m k h j)

pub block_all : (l : Line) (a : ℤ) (n : ℕ) → areas l (block a n) ≡ under l (block a n) (clip l.len (a +ℤ pos n))
block_all l a n = under_same l (block a n) (clip l.len (a +ℤ pos n)) l.len (clip_high l.len (a +ℤ pos n)) (λ k h j. past_block a n l.len k h j)

-- a block has no more cells on the line than it is long
clip_step : (w : ℕ) (a : ℤ) (n : ℕ) → clip w (a +ℤ pos n) ≤ clip w a + n
clip_step w (pos x) n = omega arith
clip_step w (negsuc x) n = let p = clip_mono w (negsuc x +ℤ pos n) (pos n) (omega (arith, ints)) in omega arith

block_bound : (l : Line) → Mild l → (a : ℤ) (n w j : ℕ) → nat_abs (under l (block a n) (clip w a + j)) ≤ j * 2000000
block_bound l m a n w zero =
    let e : under l (block a n) (clip w a + 0) ≡ pos 0 = ap (under l (block a n)) (add-zero (clip w a)) ∙ sym (block_none l a n w) in
    omega (arith, ints)
block_bound l m a n w (suc j) =
    let k = clip w a + j in
    let p = block_bound l m a n w j in
    let q = part_small l m (block a n) k in
    let e : under l (block a n) (clip w a + suc j) ≡ under l (block a n) (k + 1) = ap (under l (block a n)) (omega arith) in
    let f = under_more l (block a n) k in
    omega (arith, ints)

pub block_small : (l : Line) → Mild l → (a : ℤ) (n : ℕ) → nat_abs (areas l (block a n)) ≤ n * 2000000
block_small l m a n =
    let w = l.len in
    let j = clip w (a +ℤ pos n) - clip w a in
    let up = clip_mono w a (a +ℤ pos n) (omega (arith, ints)) in
    let few : j ≤ n = omega (arith, clip_step w a n) in
    let p = block_bound l m a n w j in
    let e : areas l (block a n) ≡ under l (block a n) (clip w a + j) = block_all l a n ∙ ap (under l (block a n)) (omega arith) in
    omega (arith, ints)
