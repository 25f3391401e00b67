-- An order of sums, and what stands with the further of two.
use Rattle.std.specs.Prelude.{◌≡◌, Bool, true, false, cond, ℤ, ◌+ℤ◌, int_lt, refl}
use Rattle.std.proofs.Common.{sym, ◌∙◌, arith}
use borrow.Author.Differences.{ints, lt-true, lt-false, true_is_lt, false_is_lt}

-- What a sense is known to be: a total order of sums, which stays when one number is added to both sides.
pub record Order (beyond : ℤ → ℤ → Bool) : Type 0 where
  pub oneway : (a b : ℤ) → beyond a b ≡ true → beyond b a ≡ false
  pub chain : (a b c : ℤ) → beyond a b ≡ false → beyond b c ≡ false → beyond a c ≡ false
  pub same : (a b : ℤ) → beyond a b ≡ false → beyond b a ≡ false → a ≡ b
  pub shift : (a b c : ℤ) → beyond (a +ℤ c) (b +ℤ c) ≡ beyond a b

-- The larger sum goes further.
pub upward : Order (λ a b. int_lt b a)
upward = record {
  oneway = λ a b h. sym (false_is_lt a b (omega (arith, lt-true b a h)));
  chain = λ a b c h k. sym (false_is_lt c a (omega (arith, lt-false b a h, lt-false c b k)));
  same = λ a b h k. omega (arith, ints, lt-false b a h, lt-false a b k);
  shift = λ a b c. shifted b a c;
}
  where
    shifted : (a b c : ℤ) → int_lt (a +ℤ c) (b +ℤ c) ≡ int_lt a b
    shifted a b c = by (int_lt a b) refl where
      by : (t : Bool) → int_lt a b ≡ t → int_lt (a +ℤ c) (b +ℤ c) ≡ int_lt a b
      by true e = sym (true_is_lt (a +ℤ c) (b +ℤ c) (omega (arith, ints, lt-true a b e))) ∙ sym e
      by false e = sym (false_is_lt (a +ℤ c) (b +ℤ c) (omega (arith, ints, lt-false a b e))) ∙ sym e

-- An order turned round is an order.
pub turned : {beyond : ℤ → ℤ → Bool} → Order beyond → Order (λ a b. beyond b a)
turned o = record {
  oneway = λ a b h. o.oneway b a h;
  chain = λ a b c h k. o.chain c b a k h;
  same = λ a b h k. o.same a b k h;
  shift = λ a b c. o.shift b a c;
}

-- The smaller sum goes further.
pub downward : Order (λ a b. int_lt a b)
downward = turned upward

-- Of x, which stands with a new sum, and y, which stands with an old one: that of the further sum; where the new goes no further, the old.
abbrev pub further_of : {X : Type 0} → (ℤ → ℤ → Bool) → ℤ → ℤ → X → X → X
further_of beyond new old x y = cond (beyond new old) x y
