-- One more start, with the best place of the axle on the block there.
use Rattle.std.proofs.Common.{◌≡◌, ℕ, zero, suc, ◌+◌, ◌-◌, ◌<◌, Bool, true, false, cond, ◌&&◌, List, length, get_or, set, ℤ, pos, negsuc, ◌+ℤ◌, ◌-ℤ◌, ◌*ℤ◌, ◌≤ℤ◌, sym, refl, ap, ◌∙◌, inl, inr, arith, length-set, get_or-set_other, get_or-set_same}
use lib.IntN.{zero-*ℤ, suc_ℤ-*ℤ}
use Rattle.std.proofs.lemmas.Int.{ints, by_lt_z}
use Rattle.std.proofs.lemmas.Bool.{cases_eq}
use Rattle.keeper.specs.Order.{Order, further_of}
use Rattle.keeper.specs.Worst.{Worst, Between}
use Rattle.keeper.proofs.Steps.{worst_join}
use Rattle.keeper.proofs.Scales.{times}
use Rattle.lines.specs.Lines.{Line, ordinate_or_zero}
use Rattle.lines.specs.Cells.{areas, block, clip}
use Rattle.lines.proofs.Products.{product_small}
use Rattle.lines.proofs.UnderCells.{clip_high}
use Rattle.lane_search.specs.declared.block_loads.BlockLoad.{BlockLoad}
use Rattle.lane_search.specs.Blocks.{Weighted, beside, rest, laden, On, Begun}
use Rattle.lane_search.specs.Gains.{gains, Running, between, Sized}
use Rattle.lane_search.specs.Reach.{Peak, Windowed}
use Rattle.lane_search.proofs.Sets.{under_alike, under_outside}
use Rattle.lane_search.proofs.RunningSums.{between_is}

-- The places on the block of n mm that begins at a.
abbrev Here : ℕ → ℤ → (ℤ × ℤ) → Type 0
Here n a x = (x.0 ≡ a) × Between a (a +ℤ pos (n + 1)) x.1

-- the sum where the block begins at a and the axle stands on an ordinate v
abbrev with_top : (ℤ → ℤ → Bool) → Line → BlockLoad → ℤ → ℤ → ℤ
with_top beyond l b a v = pos b.extra *ℤ v +ℤ rest beyond l b a

module _ {beyond : ℤ → ℤ → Bool} (o : Order beyond) (l : Line) (b : BlockLoad) where
  here : (a z v s : ℤ) → Worst beyond (ordinate_or_zero l) (Between a (a +ℤ pos (b.length + 1))) v z → s ≡ with_top beyond l b a v → Worst beyond (laden beyond l b) (Here b.length a) s (a, z)
  here a z v s f e = record {
    within = (refl, f.within);
    reached = e ∙ ap (with_top beyond l b a) f.reached;
    none = λ x h.
        let m = times o b.extra (ordinate_or_zero l x.1) v (f.none x.1 h.1) in
        rw (e, h.0) (o.shift (pos b.extra *ℤ ordinate_or_zero l x.1) (pos b.extra *ℤ v) (rest beyond l b a) ∙ m);
  }

  pub pair_first : (s v p : ℤ) → Peak beyond l (negsuc 15999) (negsuc 15999 +ℤ pos (b.length + 1)) v → s ≡ with_top beyond l b (negsuc 15999) v → p ≡ negsuc 15999 → Begun beyond l b (negsuc 15998) s p
  pair_first s v p f es ep =
      let w = here (negsuc 15999) f.place v s f.furthest es in
      rw ep record {
        axle = f.place;
        furthest = record {
          within = ((omega (arith, ints), omega (arith, ints)), w.within.1);
          reached = w.reached;
          none = λ x k. let t : x.0 ≡ negsuc 15999 = omega (arith, ints) in w.none x (t, (omega (arith, ints), omega (arith, ints)));
        };
      }

  pair_turn : (i j s s' new v p p' : ℤ) → Begun beyond l b i s p → negsuc 15999 ≤ℤ i → j ≡ i +ℤ pos 1 → Peak beyond l i (i +ℤ pos (b.length + 1)) v → new ≡ with_top beyond l b i v →
      s' ≡ further_of beyond new s new s → p' ≡ further_of beyond new s i p → Begun beyond l b j s' p'
  pair_turn i j s s' new v p p' w h e f en es ep =
      record {
        axle = further_of beyond new s f.place w.axle;
        furthest = rw (es, ep, ← both (beyond new s)) (worst_join o (laden beyond l b) (On b.length i) (Here b.length i) (On b.length j) s new (p, w.axle) (i, f.place) w.furthest (here i f.place v new f.furthest en)
            (λ x k. ((k.0.0, omega (arith, ints)), k.1))
            (λ x k. let t = k.0 in ((omega (arith, ints), omega (arith, ints)), (omega (arith, ints), omega (arith, ints))))
            (λ x k. by_lt_z x.0 i (λ lt. inl ((k.0.0, lt), k.1)) (λ ge. let t : x.0 ≡ i = omega (arith, ints) in inr (t, (omega (arith, ints), omega (arith, ints))))));
      }
    where
      both : (t : Bool) → ◌≡◌ {A = ℤ × ℤ} (cond t (i, f.place) (p, w.axle)) (cond t i p, cond t f.place w.axle)
      both true = refl
      both false = refl

  -- one more start of a row
  pub row_turn : (vs : List ℤ) (a i s s' new p p' : ℤ) (k : ℕ) → Begun beyond l b (a +ℤ pos k) s p → Windowed beyond l (b.length + 1) a vs → k < length vs → negsuc 15998 ≤ℤ a → i ≡ a +ℤ pos k →
      new ≡ with_top beyond l b i (get_or vs k (pos 0)) → s' ≡ further_of beyond new s new s → p' ≡ further_of beyond new s i p → Begun beyond l b (a +ℤ pos (k + 1)) s' p'
  row_turn vs a i s s' new p p' k w tops lt low ei en es ep =
      let top : Peak beyond l (a +ℤ pos k) (a +ℤ pos k +ℤ pos (b.length + 1)) (get_or vs k (pos 0)) = let e : a +ℤ pos (b.length + 1 + k) ≡ a +ℤ pos k +ℤ pos (b.length + 1) = omega (arith, ints) in rw e at (tops k lt) in
      pair_turn (a +ℤ pos k) _ s s' new (get_or vs k (pos 0)) p p' w (omega (arith, ints)) (omega (arith, ints)) top (rw ei at en) es (rw ei at ep)

  -- the best start with the furthest place of the axle on its block
  pub with_place : (hi s a t z : ℤ) (p : ℤ × ℤ) → Begun beyond l b hi s a → Worst beyond (ordinate_or_zero l) (Between a (a +ℤ pos (b.length + 1))) t z → p ≡ (a, z) → Worst beyond (laden beyond l b) (On b.length hi) s p
  with_place hi s a t z p w f ep =
      let on : On b.length hi (a, z) = (w.furthest.within.0, f.within) in
      let v = here a z t (with_top beyond l b a t) f refl in
      rw ep record {
        within = on;
        reached = o.same s (laden beyond l b (a, z)) (rw (w.furthest.reached, ← v.reached) (v.none (a, w.axle) (refl, w.furthest.within.1))) (w.furthest.none (a, z) on);
        none = w.furthest.none;
      }

-- What the loop keeps that weighs the sums: those below k are written.
abbrev pub Weighing : BlockLoad → List ℤ → List ℤ → List ℤ → ℕ → Type 0
Weighing b xs gs sums k =
    (length sums ≡ length xs)
    × ((j : ℕ) → j < k → get_or sums j (pos 0) ≡ pos b.rate *ℤ get_or xs j (pos 0) -ℤ pos b.lane *ℤ get_or gs j (pos 0))

pub weigh_turn : (b : BlockLoad) (xs gs sums : List ℤ) (k : ℕ) (v : ℤ) → Weighing b xs gs sums k → k < length sums → v ≡ pos b.rate *ℤ get_or xs k (pos 0) -ℤ pos b.lane *ℤ get_or gs k (pos 0) → Weighing b xs gs (set sums k v) (k + 1)
weigh_turn b xs gs sums k v inv lt e = (
  length-set sums k v ∙ inv.0,
  λ j h. elim (cases_eq j k) [
    | inl same ↦ rw (same, get_or-set_same sums k v (pos 0) lt) e
    | inr ne ↦ rw (get_or-set_other sums k j v (pos 0) ne) (inv.1 j (omega arith))
  ],
)

-- a factor times a difference
apart : (n : ℕ) (x y : ℤ) → pos n *ℤ (x -ℤ y) ≡ pos n *ℤ x -ℤ pos n *ℤ y
apart zero x y = let e = zero-*ℤ (x -ℤ y) in let f = zero-*ℤ x in let g = zero-*ℤ y in omega (arith, ints)
apart (suc n) x y =
    let e = suc_ℤ-*ℤ (pos n) (x -ℤ y) in
    let f = suc_ℤ-*ℤ (pos n) x in
    let g = suc_ℤ-*ℤ (pos n) y in
    let r = apart n x y in
    omega (arith, ints)

-- the sums over a block, weighed before or after
regroup : (r p : ℕ) (x y u v all : ℤ) → pos r *ℤ x -ℤ pos p *ℤ u -ℤ (pos r *ℤ y -ℤ pos p *ℤ v) +ℤ pos p *ℤ all ≡ pos r *ℤ (x -ℤ y) +ℤ pos p *ℤ (all -ℤ (u -ℤ v))
regroup r p x y u v all =
    shuffle (pos r *ℤ x) (pos p *ℤ u) (pos r *ℤ y) (pos p *ℤ v) (pos p *ℤ all) ∙ rw (apart r x y, apart p all (u -ℤ v), apart p u v) refl
  where
    shuffle : (a b c d e : ℤ) → a -ℤ b -ℤ (c -ℤ d) +ℤ e ≡ (a -ℤ c) +ℤ (e -ℤ (b -ℤ d))
    shuffle a b c d e = omega (arith, ints)

-- what stands with the axle, from the weighed sums
pub rest_is : (beyond : ℤ → ℤ → Bool) (l : Line) (b : BlockLoad) (xs gs sums : List ℤ) (all a : ℤ) → Running l (λ _. true) xs → Running l (gains beyond l) gs → Weighted b xs gs sums →
    all ≡ pos b.lane *ℤ areas l (gains beyond l) → between sums a b.length +ℤ all ≡ rest beyond l b a
unfolding between
rest_is beyond l b xs gs sums all a ra rg w ea =
    let n = b.length in
    let m : length sums - 1 ≡ l.len = omega (arith, w.long, ra.long) in
    let m' : length xs - 1 ≡ l.len = omega (arith, ra.long) in
    let hi = clip l.len (a +ℤ pos n) in
    let lo = clip l.len a in
    let x : get_or xs hi (pos 0) -ℤ get_or xs lo (pos 0) ≡ areas l (block a n) =
    ap (λ k. get_or xs (clip k (a +ℤ pos n)) (pos 0) -ℤ get_or xs (clip k a) (pos 0)) (sym m') ∙ between_is l (λ _. true) xs a n ra ∙ under_alike l (λ k. block a n k && true) (block a n) l.len (λ k. unit (block a n k)) in
    let g : get_or gs hi (pos 0) -ℤ get_or gs lo (pos 0) ≡ areas l (λ k. block a n k && gains beyond l k) =
    ap (λ k. get_or gs (clip k (a +ℤ pos n)) (pos 0) -ℤ get_or gs (clip k a) (pos 0)) (omega (arith, rg.long)) ∙ between_is l (gains beyond l) gs a n rg in
    let y : areas l (gains beyond l) -ℤ (get_or gs hi (pos 0) -ℤ get_or gs lo (pos 0)) ≡ areas l (beside beyond l n a) =
    rw g (sym (under_outside l (block a n) (gains beyond l) l.len)) in
    let top = clip_high l.len (a +ℤ pos n) in
    let low = clip_high l.len a in
    rw (m, ea, w.each hi (omega (arith, ra.long)), w.each lo (omega (arith, ra.long)), regroup b.rate b.lane (get_or xs hi (pos 0)) (get_or xs lo (pos 0)) (get_or gs hi (pos 0)) (get_or gs lo (pos 0)) (areas l (gains beyond l)), x, y) refl
  where
    unit : (t : Bool) → t && true ≡ t
    unit true = refl
    unit false = refl

-- how large the weighed sums are
pub weighted_sized : (b : BlockLoad) (xs gs sums : List ℤ) → Sized 200000000000 xs → Sized 200000000000 gs → length gs ≡ length xs → Weighted b xs gs sums → Sized 3000000000000000 sums
weighted_sized b xs gs sums x g e w = record {
  some = omega (arith, x.some, w.long);
  small = λ k h.
      let p = product_small (pos b.rate) (get_or xs k (pos 0)) 12800 200000000000 b.rate_limit (x.small k (omega (arith, w.long))) in
      let q = product_small (pos b.lane) (get_or gs k (pos 0)) 672 200000000000 b.lane_limit (g.small k (omega (arith, w.long))) in
      rw (w.each k (omega (arith, w.long))) (omega (arith, ints));
}
