-- Which numbers go further than 0.
use Rattle.std.proofs.Common.{◌≡◌, ℕ, zero, suc, Bool, true, false, ℤ, pos, negsuc, ◌+ℤ◌, neg_ℤ, sym, refl, ◌∙◌, arith}
use lib.Signed.{lt_z}
use Rattle.std.proofs.lemmas.Int.{ints}
use Rattle.keeper.specs.Order.{Order, turned}
use Rattle.keeper.proofs.Steps.{not_beyond_itself}

opposite : (d : ℤ) → lt_z (pos 0) (neg_ℤ d) ≡ lt_z d (pos 0)
opposite (pos zero) = refl
opposite (pos (suc n)) = let e : lt_z (pos (suc n)) (pos 0) ≡ false = grind (arith, ints) in sym e
opposite (negsuc n) = let e : lt_z (pos 0) (pos (suc n)) ≡ true = grind (arith, ints) in e

module _ {beyond : ℤ → ℤ → Bool} (o : Order beyond) where
  moved : (a b c u v : ℤ) → u ≡ a +ℤ c → v ≡ b +ℤ c → beyond u v ≡ beyond a b
  moved a b c u v e f = rw (e, f) (o.shift a b c)

  strict : (a b c : ℤ) → beyond a b ≡ true → beyond b c ≡ true → beyond a c ≡ true
  strict a b c h k = by (beyond a c) refl where
    by : (t : Bool) → beyond a c ≡ t → beyond a c ≡ true
    by true e = e
    by false e = e ∙ sym (o.chain a c b e (o.oneway b c k)) ∙ h

  -- where 1 goes further than 0, so does each number above 0
  above : beyond (pos 1) (pos 0) ≡ true → (n : ℕ) → beyond (pos (suc n)) (pos 0) ≡ true
  above h zero = h
  above h (suc n) = strict (pos (suc (suc n))) (pos (suc n)) (pos 0) (moved (pos 1) (pos 0) (pos (suc n)) _ _ (omega (arith, ints)) (omega (arith, ints)) ∙ h) (above h n)

  -- and none below it does
  below : beyond (pos 1) (pos 0) ≡ true → (n : ℕ) → beyond (negsuc n) (pos 0) ≡ false
  below h n = o.oneway (pos 0) (negsuc n) (sym (moved (pos 0) (negsuc n) (pos (suc n)) (pos (suc n)) (pos 0) (omega (arith, ints)) (omega (arith, ints))) ∙ above h n)

  pub upwards : beyond (pos 1) (pos 0) ≡ true → (d : ℤ) → beyond d (pos 0) ≡ lt_z (pos 0) d
  upwards h (pos zero) = not_beyond_itself o (pos 0)
  upwards h (pos (suc n)) = let e : lt_z (pos 0) (pos (suc n)) ≡ true = grind (arith, ints) in above h n ∙ sym e
  upwards h (negsuc n) = below h n

module _ {beyond : ℤ → ℤ → Bool} (o : Order beyond) where
  -- where it does not, the numbers below 0 go further
  pub downwards : beyond (pos 1) (pos 0) ≡ false → (d : ℤ) → beyond d (pos 0) ≡ lt_z d (pos 0)
  downwards h d = by (beyond (pos 0) (pos 1)) refl where
    by : (t : Bool) → beyond (pos 0) (pos 1) ≡ t → beyond d (pos 0) ≡ lt_z d (pos 0)
    by true e = moved o (pos 0) (neg_ℤ d) d _ _ (omega (arith, ints)) (omega (arith, ints)) ∙ upwards (turned o) e (neg_ℤ d) ∙ opposite d
    by false e = let z : pos 1 ≡ pos 0 = o.same (pos 1) (pos 0) h e in absurd (omega (arith, ints))
