-- Rows of ordinates that are filled from one end, and what they hold for a start.
use Rattle.std.proofs.Common.{◌≡◌, ℕ, suc, ◌+◌, ◌*◌, ◌<◌, ◌≤◌, Bool, ◌≢◌, ◌⊎◌, List, length, get_or, set, take, ℤ, pos, ◌+ℤ◌, ◌-ℤ◌, nat_abs, mul-le-mul, sym, refl, ap, ◌∙◌, inl, inr, arith, length-take, length-set, get_or-set_other, get_or-set_same}
use Rattle.std.specs.Int.{div_ceil}
use Rattle.std.proofs.Math.Nat.{suc-mul}
use Rattle.std.proofs.lemmas.Grind.{div_ceil_times}
use Rattle.std.proofs.lemmas.Int.{ints, by_lt_z}
use Rattle.std.proofs.lemmas.List.{get_or-take}
use Rattle.std.proofs.lemmas.Bool.{cases_eq}
use Rattle.keeper.specs.Order.{Order, further_of}
use Rattle.keeper.specs.Worst.{Worst, Between}
use Rattle.keeper.proofs.Steps.{worst_first, worst_same, worst_join, up_first, up_turn}
use Rattle.lines.specs.Lines.{Line, ordinate_or_zero}
use Rattle.lines.proofs.Bounds.{Mild}
use Rattle.lane_search.specs.Reach.{Peak, Backs, Fulls, Windowed}

-- The places of a row of n from a + i on, and its last.
abbrev Behind : ℤ → ℕ → ℕ → ℤ → Type 0
Behind a n i x = Between (a +ℤ pos i) (a +ℤ pos n) x ⊎ (x ≡ a +ℤ pos n -ℤ pos 1)

-- What a loop that fills a row from its end keeps.
abbrev pub Filling : (ℤ → ℤ → Bool) → Line → ℤ → List ℤ → ℕ → ℤ → ℤ → Type 0
Filling beyond l a vs i s p =
    Worst beyond (ordinate_or_zero l) (Behind a (length vs) i) s p
    × Backs beyond l a i vs
    × (i ≤ length vs)

-- What a loop that joins the windows' ends to a row keeps.
abbrev pub Joining : (ℤ → ℤ → Bool) → Line → ℤ → List ℤ → ℕ → ℤ → ℤ → Type 0
Joining beyond l a vs i s p =
    Worst beyond (ordinate_or_zero l) (Between (a +ℤ pos (length vs) -ℤ pos 1) (a +ℤ pos (length vs + i))) s p
    × Fulls beyond l a i vs
    × Backs beyond l a i vs
    × (i ≤ length vs)

-- rows of n places each, so many that they hold e
pub row_below : (row n e : ℕ) → 0 < n → row < div_ceil e n → row * n < e
row_below row n e some h =
    let t = div_ceil_times e n some in
    let m : suc row * n ≤ div_ceil e n * n = mul-le-mul (omega arith) (omega arith) in
    let s = suc-mul row n in
    omega arith

pub rows_above : (row n e : ℕ) → 0 < n → div_ceil e n ≤ row → e ≤ row * n
rows_above row n e some h =
    let t = div_ceil_times e n some in
    let m : div_ceil e n * n ≤ row * n = mul-le-mul (omega arith) (omega arith) in
    omega arith

-- how large an ordinate of a row is
pub peak_small : {beyond : ℤ → ℤ → Bool} (l : Line) (lo hi v : ℤ) → Mild l → Peak beyond l lo hi v → nat_abs v ≤ 1000000
peak_small l lo hi v m p = rw p.furthest.reached (m.small p.place)

-- the first places of a row
pub row_front : (beyond : ℤ → ℤ → Bool) (l : Line) (a : ℤ) (n m : ℕ) (vs : List ℤ) → Fulls beyond l a (length vs) vs → length vs ≡ n → Windowed beyond l n a (take m vs)
row_front beyond l a n m vs full e j lt =
    let few = length-take m vs in
    rw (get_or-take m vs j (pos 0) (omega arith), ← e) (full j (omega arith))

module _ (beyond : ℤ → ℤ → Bool) (l : Line) (a : ℤ) where
  backs_none : (vs : List ℤ) → Backs beyond l a (length vs) vs
  backs_none vs j le lt = absurd (omega arith)

  backs_set : (vs : List ℤ) (i k : ℕ) (v : ℤ) → Backs beyond l a i vs → i ≡ k + 1 → k < length vs → Peak beyond l (a +ℤ pos k) (a +ℤ pos (length vs)) v → Backs beyond l a k (set vs k v)
  backs_set vs i k v h e lt here j le in_row =
      let in' : j < length vs = simp length-set at in_row in
      elim (cases_eq j k) [
        | inl same ↦ rw (length-set, same, get_or-set_same vs k v (pos 0) lt) here
        | inr ne ↦ rw (length-set, get_or-set_other vs k j v (pos 0) ne) (h j (omega arith) in')
      ]

  backs_keep : (vs : List ℤ) (i : ℕ) (v : ℤ) → Backs beyond l a i vs → Backs beyond l a (i + 1) (set vs i v)
  backs_keep vs i v h j le in_row =
      let in' : j < length vs = simp length-set at in_row in
      let ne : j ≢ i = omega arith in
      rw (length-set, get_or-set_other vs i j v (pos 0) ne) (h j (omega arith) in')

  fulls_set : (vs : List ℤ) (i : ℕ) (v : ℤ) → Fulls beyond l a i vs → i < length vs → Peak beyond l (a +ℤ pos i) (a +ℤ pos (length vs + i)) v → Fulls beyond l a (i + 1) (set vs i v)
  fulls_set vs i v h lt here j below =
      elim (cases_eq j i) [
        | inl same ↦ rw (length-set, same, get_or-set_same vs i v (pos 0) lt) here
        | inr ne ↦ rw (length-set, get_or-set_other vs i j v (pos 0) ne) (h j (omega arith))
      ]

module _ {beyond : ℤ → ℤ → Bool} (o : Order beyond) (l : Line) (a : ℤ) where
  pub fill_first : (vs : List ℤ) (last s p : ℤ) → last ≡ a +ℤ pos (length vs) -ℤ pos 1 → s ≡ ordinate_or_zero l last → p ≡ last → Filling beyond l a vs (length vs) s p
  fill_first vs last s p e es ep = (
    worst_first o (ordinate_or_zero l) (Behind a (length vs) (length vs)) s p (inr (ep ∙ e)) (es ∙ ap (ordinate_or_zero l) (sym ep))
        (λ x h. elim h [ inl k ↦ absurd (omega (arith, ints, k.0, k.1)) | inr k ↦ omega (arith, ints, k) ]),
    backs_none beyond l a vs,
    omega arith,
  )

  pub fill_turn : (vs : List ℤ) (i k : ℕ) (place s s' new p p' : ℤ) → Filling beyond l a vs i s p → i ≡ k + 1 → place ≡ a +ℤ pos k → new ≡ ordinate_or_zero l place → s' ≡ further_of beyond new s new s → p' ≡ further_of beyond new s place p → Filling beyond l a (set vs k s') k s' p'
  fill_turn vs i k place s s' new p p' f e el en es ep =
      let n = length vs in
      let len = length-set vs k s' in
      let here : Worst beyond (ordinate_or_zero l) (λ x. x ≡ place) new place = worst_first o (ordinate_or_zero l) (λ x. x ≡ place) new place refl en (λ x h. h) in
      let w : Worst beyond (ordinate_or_zero l) (Behind a n k) s' p' =
      rw (es, ep) (worst_join o (ordinate_or_zero l) (Behind a n i) (λ x. x ≡ place) (Behind a n k) s new p place f.0 here
      (λ x h. elim h [ inl q ↦ inl (omega (arith, ints, q.0), q.1) | inr q ↦ inr q ])
      (λ x h. inl (omega (arith, ints, h), omega (arith, ints, h)))
      (λ x h. elim h [ inl q ↦ by_lt_z place x (λ lt. inl (inl (omega (arith, ints), q.1))) (λ ge. inr (omega (arith, ints, q.0))) | inr q ↦ inl (inr q) ])) in
      let run : Peak beyond l (a +ℤ pos k) (a +ℤ pos n) s' = record { place = p'; furthest = worst_same (Between (a +ℤ pos k) (a +ℤ pos n)) w (λ x h. elim h [ inl q ↦ q | inr q ↦ (omega (arith, ints, q), omega (arith, ints, q)) ]) (λ x h. inl h) } in
      (rw len w, backs_set beyond l a vs i k s' f.1 e (omega arith) run, omega arith)

  pub join_first : (vs : List ℤ) (last s p : ℤ) → Backs beyond l a 0 vs → last ≡ a +ℤ pos (length vs) -ℤ pos 1 → s ≡ ordinate_or_zero l last → p ≡ last → Joining beyond l a vs 0 s p
  join_first vs last s p h e es ep = (
    up_first o (ordinate_or_zero l) _ _ s p (omega (arith, ints)) (ep ∙ e) (es ∙ ap (ordinate_or_zero l) e),
    (λ j lt. absurd (omega arith)),
    h,
    omega arith,
  )

  pub join_turn : (vs : List ℤ) (i : ℕ) (next s s' new p p' r : ℤ) → Joining beyond l a vs i s p → i < length vs → r ≡ further_of beyond s (get_or vs i (pos 0)) s (get_or vs i (pos 0)) → next ≡ a +ℤ pos (length vs + i) → new ≡ ordinate_or_zero l next → s' ≡ further_of beyond new s new s → p' ≡ further_of beyond new s next p → Joining beyond l a (set vs i r) (i + 1) s' p'
  join_turn vs i next s s' new p p' r f lt er el en es ep =
      let n = length vs in
      let old = get_or vs i (pos 0) in
      let back = f.2 i (omega arith) lt in
      let window : Peak beyond l (a +ℤ pos i) (a +ℤ pos (n + i)) r = record {
        place = further_of beyond s old p back.place;
        furthest = rw er (worst_join o (ordinate_or_zero l) (Between (a +ℤ pos i) (a +ℤ pos n)) (Between (a +ℤ pos n -ℤ pos 1) (a +ℤ pos (n + i))) (Between (a +ℤ pos i) (a +ℤ pos (n + i))) old s back.place p back.furthest f.0
            (λ x h. (h.0, omega (arith, ints, h.1)))
            (λ x h. (omega (arith, ints, h.0), h.1))
            (λ x h. by_lt_z x (a +ℤ pos n) (λ less. inl (h.0, less)) (λ ge. inr (omega (arith, ints), h.1))));
      } in
      let len = length-set vs i r in
      let w = up_turn o (ordinate_or_zero l) (a +ℤ pos n -ℤ pos 1) (a +ℤ pos (n + i)) (a +ℤ pos (n + (i + 1))) s s' new p p' f.0 (omega (arith, ints)) (omega (arith, ints)) (en ∙ ap (ordinate_or_zero l) el) es (rw (← el) ep) in
      (rw len w, fulls_set beyond l a vs i r f.1 lt window, backs_keep beyond l a vs i r f.2, omega arith)
