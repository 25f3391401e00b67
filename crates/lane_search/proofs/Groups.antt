-- Groups of axles: the furthest start of one, and the furthest of several.
use Rattle.std.proofs.Common.{◌≡◌, ℕ, ◌-◌, ◌*◌, ◌≤◌, Bool, false, ℤ, pos, negsuc, ◌+ℤ◌, ◌*ℤ◌, nat_abs, ◌≤ℤ◌, ◌<ℤ◌, sym, refl, ap, ◌∙◌, inl, inr, le_trans, arith, lit≤}
use Rattle.std.proofs.lemmas.Int.{ints, by_lt_z}
use Rattle.keeper.specs.Order.{Order, further_of}
use Rattle.keeper.specs.Worst.{Worst, Between}
use Rattle.keeper.proofs.Steps.{worst_wider}
use Rattle.keeper.proofs.Scales.{times}
use Rattle.lines.specs.Lines.{Line, ordinate_or_zero}
use Rattle.lines.proofs.Bounds.{Mild, place_below, place_past}
use Rattle.lines.proofs.Products.{product_small}
use Rattle.loads.specs.declared.load_sets.Loads.{Loads}
use Rattle.loads.specs.declared.load_sets.Group.{Group}
use Rattle.loads.specs.Loads.{Load, axles, vehicle, train, light, weights, padded, at_axles, lane_effect}
use Rattle.loads.specs.Decks.{Start}
use Rattle.traffic.specs.declared.records.Code.TheVariants as code
use Rattle.traffic.specs.declared.records.Sign.TheVariants as sign
use Rattle.traffic.proofs.AxleSums.{axles_are}
use Rattle.lane_search.specs.declared.axles.Axles.{Axles}
use Rattle.lane_search.specs.declared.places.LanePlace.{LanePlace}
use Rattle.lane_search.specs.Groups.{of_three, at_three, number, OfGroup, UpTo}
use Rattle.lane_search.specs.Places.{Reaches}
use Rattle.lane_search.proofs.Reaching.{reaches_join}

nothing : (ws : ℕ × ℕ × ℕ) → of_three ws (pos 0) (pos 0) (pos 0) ≡ pos 0
nothing ws = omega (arith, ints)

-- three axles at places that are known to be theirs
pub three_at : (l : Line) (d : ℕ) (ws : ℕ × ℕ × ℕ) (a p q r y u v : ℤ) → p ≡ a → q ≡ a +ℤ pos d → r ≡ a +ℤ pos d +ℤ pos d
    → y ≡ ordinate_or_zero l p → u ≡ ordinate_or_zero l q → v ≡ ordinate_or_zero l r → of_three ws y u v ≡ at_three l d ws a
unfolding at_three
three_at l d ws a p q r y u v ep eq er ey eu ev = rw (ey, eu, ev, ep, eq, er) refl

module _ (l : Line) (x : Axles) where
  -- off the line there is no effect
  three_off : (a : ℤ) → ordinate_or_zero l a ≡ pos 0 → ordinate_or_zero l (a +ℤ pos x.spacing) ≡ pos 0 → ordinate_or_zero l (a +ℤ pos x.spacing +ℤ pos x.spacing) ≡ pos 0
      → at_three l x.spacing x.weights a ≡ pos 0
  unfolding at_three
  three_off a e f g = rw (e, f, g) (nothing x.weights)

  three_before : (a : ℤ) → (a +ℤ pos (2 * x.spacing)) <ℤ pos 0 → at_three l x.spacing x.weights a ≡ pos 0
  three_before a h = three_off a (place_below l a (omega (arith, ints))) (place_below l _ (omega (arith, ints))) (place_below l _ (omega (arith, ints)))

  three_past : (a : ℤ) → pos l.len <ℤ a → at_three l x.spacing x.weights a ≡ pos 0
  three_past a h = three_off a (place_past l a h) (place_past l _ (omega (arith, ints))) (place_past l _ (omega (arith, ints)))

  -- so the starts before the line, and those past it, add nothing to the first
  pub starts_before : {beyond : ℤ → ℤ → Bool} (hi s p : ℤ) → (hi +ℤ pos (2 * x.spacing)) ≤ℤ pos 0 → negsuc 15998 ≤ℤ hi
      → Worst beyond (at_three l x.spacing x.weights) (Between (negsuc 15999) (negsuc 15998)) s p → Worst beyond (at_three l x.spacing x.weights) (Between (negsuc 15999) hi) s p
  starts_before hi s p h k w =
      let close = x.close in
      worst_wider (Between (negsuc 15999) hi) w (λ a q. (q.0, omega (arith, ints)))
      (λ a q. by_lt_z a (negsuc 15998) (λ lt. inl (q.0, lt))
      (λ ge. inr (negsuc 15999, (omega (arith, ints), omega (arith, ints)), three_before a (omega (arith, ints)) ∙ sym (three_before (negsuc 15999) (omega (arith, ints))))))

  pub starts_past : {beyond : ℤ → ℤ → Bool} (hi s p : ℤ) → pos l.len <ℤ hi → hi ≤ℤ pos 100001
      → Worst beyond (at_three l x.spacing x.weights) (Between (negsuc 15999) hi) s p → Worst beyond (at_three l x.spacing x.weights) Start s p
  starts_past hi s p h k w =
      let close = x.close in
      worst_wider Start w (λ a q. record { low = q.0; high = omega (arith, ints) })
      (λ a q. by_lt_z a hi (λ lt. inl (q.low, lt))
      (λ ge. inr (negsuc 15999, (omega (arith, ints), omega (arith, ints)), three_past a (omega (arith, ints)) ∙ sym (three_before (negsuc 15999) (omega (arith, ints))))))

  -- how large the sum of three axles is
  three_small : (a : ℤ) → Mild l → nat_abs (at_three l x.spacing x.weights a) ≤ 600000000
  unfolding at_three
  three_small a m =
      let one : (w : ℕ) (b : ℤ) → w ≤ 200 → nat_abs (pos w *ℤ ordinate_or_zero l b) ≤ 200000000 = λ w b k. le_trans (product_small (pos w) (ordinate_or_zero l b) 200 1000000 k (m.small b)) (lit≤ tt) in
      let y = one x.weights.0 a x.light.0 in
      let u = one x.weights.1 (a +ℤ pos x.spacing) x.light.1 in
      let v = one x.weights.2 (a +ℤ pos x.spacing +ℤ pos x.spacing) x.light.2 in
      omega (arith, ints)

  pub group_small : {beyond : ℤ → ℤ → Bool} (s a : ℤ) → Mild l → Worst beyond (at_three l x.spacing x.weights) Start s a → nat_abs (pos 224000 *ℤ s) ≤ 330000000000000
  group_small s a m w = le_trans (product_small (pos 224000) s 224000 600000000 (omega arith) (rw w.reached (three_small a m))) (lit≤ tt)

module _ {beyond : ℤ → ℤ → Bool} (o : Order beyond) (l : Line) (t : Loads) where
  -- the furthest start of a group, as a load of the lane
  pub group_reaches : (g : Group) (x : Axles) (s a s' a' : ℤ) (p : LanePlace) → Mild l → x.spacing ≡ t.spacing → x.weights ≡ padded (weights t g)
      → Worst beyond (at_three l x.spacing x.weights) Start s a → s' ≡ pos 224000 *ℤ s → p ≡ record { code = code.Axles g; a = a'; z = pos 0; sign = sign.None } → a' ≡ a
      → Reaches beyond l t (OfGroup g) s' p
  unfolding at_three
  group_reaches g x s a s' a' p m d e w es ep ea = rw (es, ep, ea) record {
    furthest = record { within = (refl, w.within); reached = ap (λ (z : ℤ). pos 224000 *ℤ z) (w.reached ∙ same a); none = none };
    unused = (refl, refl);
    small = group_small l x s a m w;
  }
    where
      same : (b : ℤ) → at_three l x.spacing x.weights b ≡ at_axles l t.spacing b (weights t g)
      same b = rw d (axles_are l t.spacing b t g x.weights e)

      none : (y : Load) → OfGroup g y → beyond (lane_effect l t y) (pos 224000 *ℤ s) ≡ false
      none (axles g' b) q = rw (q.0, ← same b) (times o 224000 _ _ (w.none b q.1))
      none (vehicle b z) q = absurd q
      none (train b z set) q = absurd q
      none (light set) q = absurd q

  -- one more group
  pub group_joins : (g : Group) (s u v : ℤ) (p q r : LanePlace) → Reaches beyond l t (UpTo (number g - 1)) s p → Reaches beyond l t (OfGroup g) u q
      → v ≡ further_of beyond u s u s → r ≡ further_of beyond u s q p → Reaches beyond l t (UpTo (number g)) v r
  group_joins g s u v p q r a b ev er =
      reaches_join o l t (UpTo (number g - 1)) (OfGroup g) (UpTo (number g)) s u v p q r a b
      (λ x h. grind arith) (λ x h. grind arith) (λ x h. grind arith) ev er
