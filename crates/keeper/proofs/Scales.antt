-- Sums that are multiplied by one share.
use Rattle.std.proofs.Common.{◌≡◌, ℕ, zero, suc, Bool, false, ℤ, pos, negsuc, ◌+ℤ◌, ◌*ℤ◌, neg_ℤ, ◌≤ℤ◌, ◌<ℤ◌, sym, refl, ap, ◌∙◌, arith}
use lib.IntN.{+ℤ_comm, zero-*ℤ, suc_ℤ-*ℤ, neg_ℤ-neg_ℤ}
use Rattle.std.proofs.lemmas.Int.{ints}
use Rattle.keeper.specs.Order.{Order}
use Rattle.keeper.specs.Worst.{Worst}
use Rattle.keeper.proofs.Steps.{not_beyond_itself}

module _ {beyond : ℤ → ℤ → Bool} (o : Order beyond) where
  moved : (a b c d : ℤ) → a ≡ c → b ≡ d → beyond c d ≡ false → beyond a b ≡ false
  moved a b c d e f h = rw (e, f) h

  pub added : (a b c d : ℤ) → beyond a b ≡ false → beyond c d ≡ false → beyond (a +ℤ c) (b +ℤ d) ≡ false
  added a b c d h k = o.chain (a +ℤ c) (b +ℤ c) (b +ℤ d) (o.shift a b c ∙ h) (moved _ _ _ _ (+ℤ_comm b c) (+ℤ_comm b d) (o.shift c d b ∙ k))

  pub times : (n : ℕ) (a b : ℤ) → beyond a b ≡ false → beyond (pos n *ℤ a) (pos n *ℤ b) ≡ false
  times zero a b h = moved _ _ _ _ (zero-*ℤ a) (zero-*ℤ b) (not_beyond_itself o (pos 0))
  times (suc n) a b h = moved _ _ _ _ (suc_ℤ-*ℤ (pos n) a) (suc_ℤ-*ℤ (pos n) b) (added _ _ _ _ (times n a b h) h)

  pub turned : (a b : ℤ) → beyond b a ≡ false → beyond (neg_ℤ a) (neg_ℤ b) ≡ false
  turned a b h =
      let e : neg_ℤ a +ℤ (a +ℤ b) ≡ b = omega (arith, ints) in
      let f : neg_ℤ b +ℤ (a +ℤ b) ≡ a = omega (arith, ints) in
      sym (o.shift (neg_ℤ a) (neg_ℤ b) (a +ℤ b)) ∙ moved _ _ _ _ e f h

  minus : (n : ℕ) (a : ℤ) → negsuc n *ℤ a ≡ neg_ℤ (pos (suc n) *ℤ a)
  minus n (pos b) = refl
  minus n (negsuc b) = sym (neg_ℤ-neg_ℤ (pos (suc n) *ℤ pos (suc b)))

  -- the furthest of what is multiplied by a share: the furthest times the share
  pub shared_on : {X : Type 0} (f : X → ℤ) (P : X → Type 0) (share s u : ℤ) (p r : X) → pos 0 ≤ℤ share → Worst beyond f P s p → u ≡ share *ℤ s → r ≡ p → Worst beyond (λ x. share *ℤ f x) P u r
  shared_on f P (pos n) s u p r h w eu er = rw (eu, er) record {
    within = w.within;
    reached = ap (λ z. pos n *ℤ z) w.reached;
    none = λ x q. times n (f x) s (w.none x q);
  }
  shared_on f P (negsuc n) s u p r h w eu er = absurd (omega (arith, ints))

  -- and for a share below 0 the furthest the other way times the share
  pub shared_back : {X : Type 0} (back : ℤ → ℤ → Bool) → ((a b : ℤ) → back a b ≡ beyond b a) → (f : X → ℤ) (P : X → Type 0) (share s u : ℤ) (p r : X) → share <ℤ pos 0 → Worst back f P s p → u ≡ share *ℤ s → r ≡ p → Worst beyond (λ x. share *ℤ f x) P u r
  shared_back back opposite f P (pos n) s u p r h w eu er = absurd (omega (arith, ints))
  shared_back back opposite f P (negsuc n) s u p r h w eu er = rw (eu, er) record {
    within = w.within;
    reached = ap (λ z. negsuc n *ℤ z) w.reached;
    none = λ x q. moved _ _ _ _ (minus n (f x)) (minus n s) (turned _ _ (times (suc n) s (f x) (sym (opposite (f x) s) ∙ w.none x q)));
  }
