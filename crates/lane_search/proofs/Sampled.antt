-- Ordinates of a line that was read once.
use Rattle.std.proofs.Common.{◌≡◌, ℕ, ◌+◌, ◌-◌, ◌<◌, ◌≤◌, leb, List, ◌++◌, length, get_or, take, drop, set, replicate, ℤ, pos, negsuc, nat_abs, ◌≤ℤ◌, sym, refl, ◌∙◌, inl, inr, le_trans, arith, lit≤, length-take, get_or-set_other, get_or-set_same}
use borrow.Author.Differences.{ints}
use Rattle.std.proofs.lemmas.List.{get_or_past, get_or-take, get_or-drop, get_or_append_left, get_or-append_right}
use Rattle.std.proofs.Math.Seq.{take-append_seam}
use Rattle.std.proofs.lemmas.Bool.{cond_both, leb-false, cases_eq, cases_lt}
use Rattle.lines.specs.Lines.{Line, ordinate_or_zero}
use Rattle.lines.proofs.Bounds.{Mild, place_past}
use Rattle.loads.proofs.Centres.{zeros_small}
use Rattle.lane_search.specs.declared.samples.Sample.{Sample}
use Rattle.lane_search.specs.Samples.{sampled}
use Rattle.lane_search.specs.Readings.{line_read, Alike}

y_at : (ys : List ℤ) (x : ℕ) → ordinate_or_zero (sampled ys) (pos x) ≡ get_or ys x (pos 0)
y_at ys x =
    cond_both (leb x (length ys - 1)) (get_or ys x (pos 0)) (pos 0) (λ y. y ≡ get_or ys x (pos 0)) (λ _. refl)
    (λ e. sym (get_or_past ys x (pos 0) (omega (arith, leb-false x (length ys - 1) e))))

-- the ordinates of a line that was read
read_on : (s : Sample) (x : ℕ) → x ≤ s.length → ordinate_or_zero (line_read s) (pos x) ≡ get_or s.ordinates x (pos 0)
read_on s x h = y_at (take (s.length + 1) s.ordinates) x ∙ get_or-take (s.length + 1) s.ordinates x (pos 0) (omega arith)

read_past : (s : Sample) (x : ℤ) → pos (s.length + 1) ≤ℤ x → ordinate_or_zero (line_read s) x ≡ pos 0
read_past s (pos x) h =
    let few = length-take (s.length + 1) s.ordinates in
    y_at (take (s.length + 1) s.ordinates) x ∙ get_or_past (take (s.length + 1) s.ordinates) x (pos 0) (omega (arith, ints))
read_past s (negsuc x) h = refl

pub read_mild : (s : Sample) → Mild (line_read s)
read_mild s = record {
  len_high = omega (arith, length-take (s.length + 1) s.ordinates, s.short);
  scale_high = omega arith;
  small = at;
}
  where
    at : (x : ℤ) → nat_abs (ordinate_or_zero (line_read s) x) ≤ 1000000
    at (pos x) = elim (cases_lt x (s.length + 1)) [
      | inl lt ↦ rw (read_on s x (omega arith)) (s.small x)
      | inr ge ↦ rw (read_past s (pos x) (omega (arith, ints))) (omega arith)
    ]
    at (negsuc x) = omega arith

pub read_short : (s : Sample) → (line_read s).len ≤ s.length
read_short s = omega (arith, length-take (s.length + 1) s.ordinates)

-- The first x ordinates of a row are those of a line, and keep the limit of an ordinate.
pub record Taken (l : Line) (ys : List ℤ) (x : ℕ) : Type 0 where
  pub values : (j : ℕ) → j < x → get_or ys j (pos 0) ≡ ordinate_or_zero l (pos j)
  pub small : (j : ℕ) → j < x → nat_abs (get_or ys j (pos 0)) ≤ 1000000

pub take_turn : (l : Line) (ys : List ℤ) (x : ℕ) (y : ℤ) → Taken l ys x → y ≡ ordinate_or_zero l (pos x) → nat_abs y ≤ 1000000 → x < length ys → Taken l (set ys x y) (x + 1)
take_turn l ys x y t e small lt = record {
  values = λ j k. elim (cases_eq j x) [
    | inl same ↦ rw (same, get_or-set_same ys x y (pos 0) lt) e
    | inr ne ↦ rw (get_or-set_other ys x j y (pos 0) ne) (t.values j (omega arith))
  ];
  small = λ j k. elim (cases_eq j x) [
    | inl same ↦ rw (same, get_or-set_same ys x y (pos 0) lt) small
    | inr ne ↦ rw (get_or-set_other ys x j y (pos 0) ne) (t.small j (omega arith))
  ];
}

-- a row that was read, and what stands after it
pub row_small : (row : List ℤ) (n m : ℕ) → ((j : ℕ) → j < length row → nat_abs (get_or row j (pos 0)) ≤ 1000000) → (k : ℕ) → nat_abs (get_or (row ++ drop n (replicate m (pos 0))) k (pos 0)) ≤ 1000000
row_small row n m small k = elim (cases_lt k (length row)) [
  | inl lt ↦ rw (get_or_append_left row _ (pos 0) k lt) (small k lt)
  | inr ge ↦ rw (get_or-append_right row _ (length row) k (pos 0) refl ge, get_or-drop n (replicate m (pos 0)) (k - length row) (pos 0)) (le_trans (zeros_small m (n + (k - length row))) (lit≤ tt))
]

pub row_alike : (l : Line) (row rest : List ℤ) (n : ℕ) → length row ≡ n + 1 → l.len ≡ n → ((j : ℕ) → j < length row → get_or row j (pos 0) ≡ ordinate_or_zero l (pos j)) → Alike (sampled (take (n + 1) (row ++ rest))) l
row_alike l row rest n e f values = rw (← e, take-append_seam row rest) record { len = omega arith; at = by }
  where
    by : (z : ℤ) → ordinate_or_zero (sampled row) z ≡ ordinate_or_zero l z
    by (negsuc z) = refl
    by (pos z) = y_at row z ∙ elim (cases_lt z (length row)) [
      | inl lt ↦ values z lt
      | inr ge ↦ get_or_past row z (pos 0) ge ∙ sym (place_past l (pos z) (omega (arith, ints)))
    ]
