-- Double areas under a part of a set of cells.
use Rattle.std.proofs.Common.{◌≡◌, ℕ, zero, suc, ◌+◌, ◌-◌, ◌<◌, ◌≤◌, Bool, true, false, cond, not, ◌&&◌, ℤ, pos, ◌+ℤ◌, ◌-ℤ◌, refl, ap, ◌∙◌, zero-le, arith}
use borrow.Author.Differences.{ints}
use Rattle.std.proofs.lemmas.Bool.{both_ways}
use Rattle.keeper.specs.Order.{Order}
use Rattle.keeper.proofs.Steps.{not_beyond_itself}
use Rattle.keeper.proofs.Scales.{added}
use Rattle.lines.specs.Lines.{Line}
use Rattle.lines.specs.Cells.{double_area, under, areas, block, clip}
use Rattle.lines.proofs.UnderCells.{under_more, under_same, clip_high, clip_mono, before_block, in_block, past_block}
use Rattle.lane_search.specs.Gains.{gains}

module _ (l : Line) where
  -- the same cells under another name
  pub under_below : (p q : ℕ → Bool) (n : ℕ) → ((k : ℕ) → k < n → p k ≡ q k) → under l p n ≡ under l q n
  unfolding under
  under_below p q zero e = refl
  under_below p q (suc n) e = rw (under_below p q n (λ k lt. e k (omega arith)), e n (omega arith)) refl

  pub under_alike : (p q : ℕ → Bool) (n : ℕ) → ((k : ℕ) → p k ≡ q k) → under l p n ≡ under l q n
  under_alike p q n e = under_below p q n (λ k _. e k)

  -- what is in a set and outside another
  pub under_outside : (b p : ℕ → Bool) (n : ℕ) → under l (λ k. not (b k) && p k) n ≡ under l p n -ℤ under l (λ k. b k && p k) n
  unfolding under
  under_outside b p zero = refl
  under_outside b p (suc n) = let r = under_outside b p n in one (b n) r where
    one : (t : Bool) → under l (λ k. not (b k) && p k) n ≡ under l p n -ℤ under l (λ k. b k && p k) n →
        under l (λ k. not (b k) && p k) n +ℤ cond (not t && p n) (double_area l n) (pos 0) ≡ (under l p n +ℤ cond (p n) (double_area l n) (pos 0)) -ℤ (under l (λ k. b k && p k) n +ℤ cond (t && p n) (double_area l n) (pos 0))
    one true r = omega (arith, ints)
    one false r = omega (arith, ints)

  -- from the first cell of a block on, j cells
  within_block : (a : ℤ) (n : ℕ) (p : ℕ → Bool) (m j : ℕ) → clip m a + j ≤ clip m (a +ℤ pos n) → under l (λ k. block a n k && p k) (clip m a + j) ≡ under l p (clip m a + j) -ℤ under l p (clip m a)
  unfolding under
  within_block a n p m zero h =
      let e : clip m a + 0 ≡ clip m a = omega arith in
      let z = under_same l (λ k. block a n k && p k) 0 (clip m a) zero-le (λ k _ lt. ap (λ (b : Bool). b && p k) (before_block a n m k lt)) in
      rw e (omega (arith, ints))
  within_block a n p m (suc j) h =
      let k = clip m a + j in
      let e : clip m a + suc j ≡ k + 1 = omega arith in
      let b : block a n k ≡ true = in_block a n m k (omega arith) (omega arith) in
      let r = within_block a n p m j (omega arith) in
      let f = under_more l (λ i. block a n i && p i) k in
      let g = under_more l p k in
      let s : cond (block a n k && p k) (double_area l k) (pos 0) ≡ cond (p k) (double_area l k) (pos 0) = ap (λ (t : Bool). cond (t && p k) (double_area l k) (pos 0)) b in
      rw e (omega (arith, ints))

  -- the cells of a set under a block, from the sums over the first cells
  pub under_block : (a : ℤ) (n : ℕ) (p : ℕ → Bool) → areas l (λ k. block a n k && p k) ≡ under l p (clip l.len (a +ℤ pos n)) -ℤ under l p (clip l.len a)
  under_block a n p =
      let m = l.len in
      let up = clip_mono m a (a +ℤ pos n) (omega (arith, ints)) in
      let e : clip m a + (clip m (a +ℤ pos n) - clip m a) ≡ clip m (a +ℤ pos n) = omega arith in
      let w = within_block a n p m (clip m (a +ℤ pos n) - clip m a) (omega arith) in
      under_same l (λ k. block a n k && p k) (clip m (a +ℤ pos n)) m (clip_high m (a +ℤ pos n)) (λ k h j. ap (λ (b : Bool). b && p k) (past_block a n m k h j))
      ∙ rw e at w

-- taken where it goes further than 0, a number goes furthest
module _ {beyond : ℤ → ℤ → Bool} (o : Order beyond) (l : Line) where
  one : (v : ℤ) (b t : Bool) → (t ≡ true → b ≡ false) → beyond (cond t v (pos 0)) (cond (not b && beyond v (pos 0)) v (pos 0)) ≡ false
  one v true true h = absurd (both_ways true (h refl) refl)
  one v true false h = not_beyond_itself o (pos 0)
  one v false t h = by t (beyond v (pos 0)) refl where
    by : (t u : Bool) → beyond v (pos 0) ≡ u → beyond (cond t v (pos 0)) (cond u v (pos 0)) ≡ false
    by true true e = not_beyond_itself o v
    by true false e = e
    by false true e = o.oneway v (pos 0) e
    by false false e = not_beyond_itself o (pos 0)

  -- of all sets of cells outside b, those that gain go furthest
  pub gains_furthest : (b set : ℕ → Bool) (n : ℕ) → ((k : ℕ) → set k ≡ true → b k ≡ false) → beyond (under l set n) (under l (λ k. not (b k) && gains beyond l k) n) ≡ false
  unfolding under
  gains_furthest b set zero h = not_beyond_itself o (pos 0)
  gains_furthest b set (suc n) h = added o _ _ _ _ (gains_furthest b set n h) (one (double_area l n) (b n) (set n) (h n))
