-- One offer to a keeper.
use Rattle.std.proofs.Common.{◌≡◌, Bool, true, false, cond, ◌⊎◌, ℤ, pos, ◌+ℤ◌, ◌≤ℤ◌, sym, refl, ap, ◌∙◌, inl, inr, arith}
use Rattle.std.proofs.lemmas.Int.{ints, by_lt_z}
use Rattle.keeper.specs.Order.{Order, further_of}
use Rattle.keeper.specs.Worst.{Worst, Between}

-- the same places under another name
pub worst_same : {X : Type 0} {beyond : ℤ → ℤ → Bool} {f : X → ℤ} {P : X → Type 0} {s : ℤ} {p : X} (R : X → Type 0) → Worst beyond f P s p → ((x : X) → P x → R x) → ((x : X) → R x → P x) → Worst beyond f R s p
worst_same {p = p} R w to from = record { within = to p w.within; reached = w.reached; none = λ x r. w.none x (from x r) }

-- more places, each with a sum that one of the first has too
pub worst_wider : {X : Type 0} {beyond : ℤ → ℤ → Bool} {f : X → ℤ} {P : X → Type 0} {s : ℤ} {p : X} (R : X → Type 0) → Worst beyond f P s p → ((x : X) → P x → R x) → ((x : X) → R x → P x ⊎ ((y : X) × P y × (f x ≡ f y))) → Worst beyond f R s p
worst_wider {beyond = beyond} {s = s} {p = p} R w to from = record {
  within = to p w.within;
  reached = w.reached;
  none = λ x r. elim (from x r) [ inl q ↦ w.none x q | inr y ↦ ap (λ z. beyond z s) y.2 ∙ w.none y.0 y.1 ];
}

module _ {beyond : ℤ → ℤ → Bool} (o : Order beyond) where
  pub not_beyond_itself : (a : ℤ) → beyond a a ≡ false
  not_beyond_itself a = by (beyond a a) refl where
    by : (t : Bool) → beyond a a ≡ t → beyond a a ≡ false
    by true e = o.oneway a a e
    by false e = e

  -- the only place is the worst
  pub worst_first : {X : Type 0} (f : X → ℤ) (P : X → Type 0) (s : ℤ) (p : X) → P p → s ≡ f p → ((x : X) → P x → x ≡ p) → Worst beyond f P s p
  worst_first f P s p h e only = record {
    within = h;
    reached = e;
    none = λ x q. rw (ap f (only x q) ∙ sym e) (not_beyond_itself s);
  }

  -- the worst of the places P and of one more
  worst_next : {X : Type 0} (f : X → ℤ) (P P' : X → Type 0) (s new : ℤ) (p i : X) → Worst beyond f P s p → new ≡ f i → P' i → ((x : X) → P x → P' x) → ((x : X) → P' x → P x ⊎ (x ≡ i)) → Worst beyond f P' (further_of beyond new s new s) (further_of beyond new s i p)
  worst_next f P P' s new p i w e here more all = by (beyond new s) refl where
    by : (t : Bool) → beyond new s ≡ t → Worst beyond f P' (cond t new s) (cond t i p)
    by true b = record {
      within = here;
      reached = e;
      none = λ x q. elim (all x q) [ inl old ↦ o.chain (f x) s new (w.none x old) (o.oneway new s b) | inr same ↦ rw (ap f same ∙ sym e) (not_beyond_itself new) ];
    }
    by false b = record {
      within = more p w.within;
      reached = w.reached;
      none = λ x q. elim (all x q) [ inl old ↦ w.none x old | inr same ↦ rw (ap f same ∙ sym e) b ];
    }

  -- a loop upwards: the first place, and a turn of it
  pub up_first : (f : ℤ → ℤ) (lo hi s p : ℤ) → hi ≡ lo +ℤ pos 1 → p ≡ lo → s ≡ f lo → Worst beyond f (Between lo hi) s p
  up_first f lo hi s p h e r =
      worst_first f (Between lo hi) s p (omega (arith, ints), omega (arith, ints)) (r ∙ ap f (sym e)) (λ x q. omega (arith, ints))

  pub up_turn : (f : ℤ → ℤ) (lo i j s s' new p p' : ℤ) → Worst beyond f (Between lo i) s p → lo ≤ℤ i → j ≡ i +ℤ pos 1 → new ≡ f i → s' ≡ further_of beyond new s new s → p' ≡ further_of beyond new s i p → Worst beyond f (Between lo j) s' p'
  up_turn f lo i j s s' new p p' w h e r es ep =
      rw (es, ep) (worst_next f (Between lo i) (Between lo j) s new p i w r (omega (arith, ints), omega (arith, ints))
      (λ x q. (q.0, omega (arith, ints)))
      (λ x q. by_lt_z x i (λ lt. inl (q.0, lt)) (λ ge. inr (omega (arith, ints)))))

  -- a loop downwards
  pub down_turn : (f : ℤ → ℤ) (i j hi s s' new p p' : ℤ) → Worst beyond f (Between i hi) s p → i ≤ℤ hi → i ≡ j +ℤ pos 1 → new ≡ f j → s' ≡ further_of beyond new s new s → p' ≡ further_of beyond new s j p → Worst beyond f (Between j hi) s' p'
  down_turn f i j hi s s' new p p' w h e r es ep =
      rw (es, ep) (worst_next f (Between i hi) (Between j hi) s new p j w r (omega (arith, ints), omega (arith, ints))
      (λ x q. (omega (arith, ints), q.1))
      (λ x q. by_lt_z x i (λ lt. inr (omega (arith, ints))) (λ ge. inl (ge, q.1))))

  -- the end of a loop
  pub up_last : (f : ℤ → ℤ) (lo i hi s s' p p' : ℤ) → Worst beyond f (Between lo i) s p → i ≡ hi → s' ≡ s → p' ≡ p → Worst beyond f (Between lo hi) s' p'
  up_last f lo i hi s s' p p' w e es ep = rw (es, ep, ← e) w

  -- the worse of the worst of two sets of places
  pub worst_join : {X : Type 0} (f : X → ℤ) (P Q R : X → Type 0) (s t : ℤ) (p q : X) → Worst beyond f P s p → Worst beyond f Q t q → ((x : X) → P x → R x) → ((x : X) → Q x → R x) → ((x : X) → R x → P x ⊎ Q x) → Worst beyond f R (further_of beyond t s t s) (further_of beyond t s q p)
  worst_join f P Q R s t p q u v pr qr all = by (beyond t s) refl where
    by : (b : Bool) → beyond t s ≡ b → Worst beyond f R (cond b t s) (cond b q p)
    by true e = record {
      within = qr q v.within;
      reached = v.reached;
      none = λ x h. elim (all x h) [ inl a ↦ o.chain (f x) s t (u.none x a) (o.oneway t s e) | inr a ↦ v.none x a ];
    }
    by false e = record {
      within = pr p u.within;
      reached = u.reached;
      none = λ x h. elim (all x h) [ inl a ↦ u.none x a | inr a ↦ o.chain (f x) t s (v.none x a) e ];
    }

  -- two runs of places that follow one another
  pub runs_join : (f : ℤ → ℤ) (lo mid hi s t v p q r : ℤ) → Worst beyond f (Between lo mid) s p → Worst beyond f (Between mid hi) t q → lo ≤ℤ mid → mid ≤ℤ hi → v ≡ further_of beyond t s t s → r ≡ further_of beyond t s q p → Worst beyond f (Between lo hi) v r
  runs_join f lo mid hi s t v p q r a b h k ev er =
      rw (ev, er) (worst_join f (Between lo mid) (Between mid hi) (Between lo hi) s t p q a b
      (λ x z. (z.0, omega (arith, ints)))
      (λ x z. (omega (arith, ints), z.1))
      (λ x z. by_lt_z x mid (λ lt. inl (z.0, lt)) (λ ge. inr (ge, z.1))))
