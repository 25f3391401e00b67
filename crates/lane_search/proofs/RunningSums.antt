-- Sums over the first cells of a line, one cell after the other.
use Rattle.std.proofs.Common.{◌≡◌, ℕ, ◌+◌, ◌-◌, ◌<◌, ◌≤◌, Bool, true, cond, ◌&&◌, List, length, get_or, set, ℤ, pos, ◌+ℤ◌, ◌-ℤ◌, nat_abs, sym, refl, ap, ◌∙◌, inl, inr, arith, get_or-set_other, get_or-set_same}
use borrow.Author.Differences.{ints}
use Rattle.std.proofs.lemmas.Bool.{cases_eq}
use Rattle.std.proofs.lemmas.List.{length-map, get_or-map}
use Rattle.lines.specs.Lines.{Line}
use Rattle.lines.specs.Cells.{double_area, under, areas, block, clip}
use Rattle.lines.proofs.Bounds.{Mild}
use Rattle.lines.proofs.UnderCells.{under_more, under_small, clip_high}
use Rattle.lane_search.specs.declared.total.Total.{Total}
use Rattle.lane_search.specs.Gains.{gains, areas_of, helps_of, Running, between, Sized}
use Rattle.lane_search.proofs.Sets.{under_block}

-- no sum yet
abbrev pub nothing : Total
nothing = record { area = pos 0; help = pos 0 }

-- The sum holds the double areas of the first k cells, of all and of those that help.
pub record Summed (beyond : ℤ → ℤ → Bool) (l : Line) (k : ℕ) (sum : Total) : Type 0 where
  pub area : sum.area ≡ under l (λ _. true) k
  pub help : sum.help ≡ under l (gains beyond l) k

-- What the loop keeps that comes to the cell k: the sums below it are written, and the next is at hand.
pub record Adding (beyond : ℤ → ℤ → Bool) (l : Line) (ts : List Total) (k : ℕ) (sum : Total) : Type 0 where
  pub next : Summed beyond l k sum
  pub written : (j : ℕ) → j < k → Summed beyond l j (get_or ts j nothing)

nothing_summed : (beyond : ℤ → ℤ → Bool) (l : Line) → Summed beyond l 0 nothing
unfolding under
nothing_summed beyond l = record { area = refl; help = refl }

pub add_first : (beyond : ℤ → ℤ → Bool) (l : Line) (ts : List Total) → Adding beyond l ts 0 nothing
add_first beyond l ts = record { next = nothing_summed beyond l; written = λ j lt. absurd (omega arith) }

pub add_turn : (beyond : ℤ → ℤ → Bool) (l : Line) (ts : List Total) (k : ℕ) (sum sum' : Total) → Adding beyond l ts k sum → k < length ts
    → sum'.area ≡ sum.area +ℤ double_area l k → sum'.help ≡ sum.help +ℤ cond (gains beyond l k) (double_area l k) (pos 0) → Adding beyond l (set ts k sum) (k + 1) sum'
add_turn beyond l ts k sum sum' inv lt ea eh = record {
  next = record {
    area = ea ∙ ap (λ (z : ℤ). z +ℤ double_area l k) inv.next.area ∙ sym (under_more l (λ _. true) k);
    help = eh ∙ ap (λ (z : ℤ). z +ℤ cond (gains beyond l k) (double_area l k) (pos 0)) inv.next.help ∙ sym (under_more l (gains beyond l) k);
  };
  written = λ j h. elim (cases_eq j k) [
    | inl same ↦ rw (same, get_or-set_same ts k sum nothing lt) inv.next
    | inr ne ↦ rw (get_or-set_other ts k j sum nothing ne) (inv.written j (omega arith))
  ];
}

-- how large these sums are
pub running_sized : (l : Line) (pick : ℕ → Bool) (sums : List ℤ) → Mild l → Running l pick sums → Sized 200000000000 sums
running_sized l pick sums m r = record {
  some = omega (arith, r.long);
  small = λ k h. rw (r.each k (omega (arith, r.long))) (under_small l m pick k (omega (arith, r.long, m.len_high)));
}

pub total_small : (beyond : ℤ → ℤ → Bool) (l : Line) (ts : List Total) (k : ℕ) → Mild l → Running l (λ _. true) (areas_of ts) → Running l (gains beyond l) (helps_of ts) → k < length ts
    → (nat_abs (get_or ts k nothing).area ≤ 200000000000) × (nat_abs (get_or ts k nothing).help ≤ 200000000000)
total_small beyond l ts k m ra rh lt = (
  rw (← get_or-map (λ t. t.area) ts k nothing (pos 0) lt) ((running_sized l _ _ m ra).small k (omega (arith, length-map ts (λ t. t.area)))),
  rw (← get_or-map (λ t. t.help) ts k nothing (pos 0) lt) ((running_sized l _ _ m rh).small k (omega (arith, length-map ts (λ t. t.help)))),
)

-- the cells of a set under a block
pub between_is : (l : Line) (pick : ℕ → Bool) (sums : List ℤ) (a : ℤ) (n : ℕ) → Running l pick sums → between sums a n ≡ areas l (λ k. block a n k && pick k)
unfolding between
between_is l pick sums a n r =
    let e : length sums - 1 ≡ l.len = omega (arith, r.long) in
    rw (e, r.each (clip l.len (a +ℤ pos n)) (clip_high l.len (a +ℤ pos n)), r.each (clip l.len a) (clip_high l.len a)) (sym (under_block l a n pick))

pub sum_is : (x y u v : ℤ) → x ≡ u → y ≡ v → x +ℤ y ≡ u +ℤ v
sum_is x y u v e f = cc

pub less_is : (x y u v : ℤ) → x ≡ u → y ≡ v → x -ℤ y ≡ u -ℤ v
less_is x y u v e f = cc

pub less_small : (x y : ℤ) (m n : ℕ) → nat_abs x ≤ m → nat_abs y ≤ n → nat_abs (x -ℤ y) ≤ m + n
less_small x y m n h k = omega (arith, ints)
