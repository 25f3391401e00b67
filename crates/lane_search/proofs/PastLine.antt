-- Blocks that lie past the line.
use Rattle.std.proofs.Common.{◌≡◌, ℕ, ◌<◌, ◌≤◌, Bool, false, not, ◌&&◌, ℤ, pos, negsuc, ◌+ℤ◌, ◌*ℤ◌, ◌≤ℤ◌, ◌<ℤ◌, sym, refl, ap, ◌∙◌, inl, inr, zero-le, arith}
use Rattle.std.proofs.lemmas.Int.{ints, by_lt_z}
use Rattle.keeper.specs.Worst.{Worst}
use Rattle.keeper.proofs.Steps.{worst_wider}
use Rattle.lines.specs.Lines.{Line, ordinate_or_zero}
use Rattle.lines.specs.Cells.{under, areas, block}
use Rattle.lines.proofs.Bounds.{place_past}
use Rattle.lines.proofs.UnderCells.{under_same}
use Rattle.lane_search.specs.declared.block_loads.BlockLoad.{BlockLoad}
use Rattle.lane_search.specs.Blocks.{beside, rest, laden, On, Begun}
use Rattle.lane_search.specs.Gains.{gains}
use Rattle.lane_search.proofs.Sets.{under_below}

block_before : (a : ℤ) (n k : ℕ) → (a +ℤ pos n) ≤ℤ pos 0 → block a n k ≡ false
block_before a n k h = grind (arith, ints)

block_past : (a : ℤ) (n k : ℕ) → pos k <ℤ a → block a n k ≡ false
block_past a n k h = grind (arith, ints)

module _ (beyond : ℤ → ℤ → Bool) (l : Line) (b : BlockLoad) where
  -- a block that covers no cell of the line leaves p on every cell that helps
  rest_off : (a : ℤ) → ((k : ℕ) → k < l.len → block a b.length k ≡ false) → rest beyond l b a ≡ pos b.rate *ℤ pos 0 +ℤ pos b.lane *ℤ areas l (gains beyond l)
  unfolding under
  rest_off a none =
      let x = under_same l (block a b.length) 0 l.len zero-le (λ k _ lt. none k lt) in
      let y = under_below l (beside beyond l b.length a) (gains beyond l) l.len (λ k lt. ap (λ (t : Bool). not t && gains beyond l k) (none k lt)) in
      rw (x, y) refl

  -- past the line it is as at the first start
  past_same : (a z : ℤ) → b.length ≤ 16000 → pos l.len <ℤ a → a ≤ℤ z → laden beyond l b (a, z) ≡ laden beyond l b (negsuc 15999, negsuc 15999)
  past_same a z short h k =
      let x : ordinate_or_zero l z ≡ ordinate_or_zero l (negsuc 15999) = place_past l z (omega (arith, ints)) in
      let y : rest beyond l b a ≡ rest beyond l b (negsuc 15999) =
      rest_off a (λ j lt. block_past a b.length j (omega (arith, ints))) ∙ sym (rest_off (negsuc 15999) (λ j lt. block_before (negsuc 15999) b.length j (omega (arith, ints)))) in
      rw (x, y) refl

  -- so the starts past the line add nothing
  blocks_past : (hi s : ℤ) (p : ℤ × ℤ) → b.length ≤ 16000 → pos l.len <ℤ hi → hi ≤ℤ pos 100001 → Worst beyond (laden beyond l b) (On b.length hi) s p → Worst beyond (laden beyond l b) (On b.length (pos 100001)) s p
  blocks_past hi s p short h k w =
      worst_wider (On b.length (pos 100001)) w (λ x q. ((q.0.0, omega (arith, ints)), q.1))
      (λ x q. by_lt_z x.0 hi (λ lt. inl ((q.0.0, lt), q.1))
      (λ ge. inr ((negsuc 15999, negsuc 15999), ((omega (arith, ints), omega (arith, ints)), (omega (arith, ints), omega (arith, ints))), past_same x.0 x.1 short (omega (arith, ints)) q.1.0)))

  pub begun_past : (hi s a : ℤ) → b.length ≤ 16000 → pos l.len <ℤ hi → hi ≤ℤ pos 100001 → Begun beyond l b hi s a → Begun beyond l b (pos 100001) s a
  begun_past hi s a short h k w = record { axle = w.axle; furthest = blocks_past hi s (a, w.axle) short h k w.furthest }
