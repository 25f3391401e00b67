-- What the questions on a record ask, and what their answers say.
use Rattle.std.proofs.Common.{◌≡◌, ℕ, zero, suc, ◌+◌, ◌<◌, Bool, true, false, cond, List, [], ◌∷◌, length, map, count_by, ℤ, ◌≤ℤ◌, int_le, slice_index_or, Decides, MatchBool, sym, refl, ◌∙◌, zero-add, arith}
use Rattle.std.proofs.lemmas.List.Recursion.{is_count_by}
use borrow.Author.Differences.{ints}
use lib.Signed.{le_z}
use Rattle.std.specs.List.{HoldsAt, AllWithin, AllByRecursion, AllAdjacentBelow, IsAllAdjacentAnswer}
use Rattle.std.proofs.lemmas.List.Elements.{All-from_recursion, recursion_from_All, All-map, All-from_all_within}
use Rattle.std.proofs.lemmas.Bool.{and_parts, not-true, false≢true}
use Rattle.traffic.specs.declared.records.LaneRecord.{LaneRecord}
use Rattle.traffic.specs.declared.records.Sign.{Sign}
use Rattle.lines.specs.Lines.{Line}
use Rattle.lines.specs.Cells.{block}
use Rattle.loads.specs.declared.load_sets.Loads.{Loads}
use Rattle.loads.specs.Decks.{heavy, left_side, right_side, Apart, heavies}
use Rattle.traffic.specs.Records.{beside_train, lane_of, blank}

-- p of a train stands on no cell under its block
pub off_block : (l : Line) (n : ℕ) (s : Sign) (a : ℤ) (k : ℕ) → beside_train l n s a k ≡ true → block a n k ≡ false
off_block l n s a k e = not-true _ (and_parts _ _ e).0

pub decides_le : (a b : ℤ) → Decides (le_z a b) (a ≤ℤ b)
decides_le a b = (λ e. grind (arith, ints), λ h. grind (arith, ints))

-- what `all` answers of the lanes of a record, as a fact of the lanes that they stand for
module _ {X Y : Type 0} (P : Y → Type 0) (f : X → Y) where
  of_record : (xs : List X) → AllByRecursion P (map f xs) → AllByRecursion (λ x. P (f x)) xs
  of_record [] h = tt
  of_record (x ∷ xs) h = (h.0, of_record xs h.1)

  pub decides_stood : (xs : List X) (d : X) (r : Bool) → MatchBool r (AllWithin (λ x. P (f x)) xs 0 (length xs)) ((k : ℕ) × (k < length xs) × HoldsAt (λ x. P (f x) → ⊥) xs k)
      → Decides r (AllByRecursion P (map f xs))
  decides_stood xs d true h = (λ _. recursion_from_All P (map f xs) (All-map P f xs (All-from_all_within (λ x. P (f x)) xs h)), λ _. refl)
  decides_stood xs d false h =
      (λ e. absurd (false≢true e), λ a. absurd (h.2 d (All-from_recursion (λ x. P (f x)) xs (of_record xs a) h.0 d h.1)))

more_or_same : (b : Bool) (n : ℕ) → cond b 1 0 + n ≡ cond b (1 + n) n
more_or_same true n = refl
more_or_same false n = zero-add n

suc_more : (k : ℕ) → suc k + 1 ≡ suc (k + 1)
suc_more k = omega arith

module _ (l : Line) (t : Loads) where
  pub heavies_is : (xs : List LaneRecord) → heavies (map (lane_of l t) xs) ≡ count_by (λ x. heavy (lane_of l t x).load) xs
  heavies_is xs = is_count_by (λ xs. heavies (map (lane_of l t) xs)) (λ x. heavy (lane_of l t x).load) refl (λ x xs. more_or_same _ _) xs

  -- one lane ends where the other begins, or before
  abbrev before : LaneRecord → LaneRecord → Bool
  before x y = int_le (right_side (lane_of l t x)) (left_side (lane_of l t y))

  apart_of : (xs : List LaneRecord) → AllAdjacentBelow (λ x y. true ≡ before x y) xs (length xs) → Apart (map (lane_of l t) xs)
  apart_of [] h = tt
  apart_of (x ∷ []) h = (tt, tt)
  apart_of (x ∷ y ∷ ys) h =
      ((decides_le _ _).0 (sym (h 0 x (omega arith))), apart_of (y ∷ ys) (λ k d lt. rw (suc_more k) at (h (suc k) d (omega arith))))

  before_at : (xs : List LaneRecord) (k : ℕ) (d : LaneRecord) → Apart (map (lane_of l t) xs) → k + 1 < length xs → before (slice_index_or xs k d) (slice_index_or xs (k + 1) d) ≡ true
  before_at [] k d a lt = absurd (omega arith)
  before_at (x ∷ []) k d a lt = absurd (omega arith)
  before_at (x ∷ y ∷ ys) zero d a lt = (decides_le _ _).1 a.0
  before_at (x ∷ y ∷ ys) (suc k) d a lt = rw (suc_more k) (before_at (y ∷ ys) k d a.1 (omega arith))

  pub decides_apart : (xs : List LaneRecord) (r : Bool) → IsAllAdjacentAnswer (λ x y b. b ≡ before x y) xs r → Decides r (Apart (map (lane_of l t) xs))
  decides_apart xs true h = (λ _. apart_of xs h, λ _. refl)
  decides_apart xs false h = (λ e. absurd (false≢true e), λ a. h.2 blank ∙ before_at xs h.0 blank a h.1)
