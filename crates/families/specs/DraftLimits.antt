-- The lines of drafts, one by one, and that they keep the limits of a family where every question is answered yes.
use Rattle.std.specs.Prelude.{◌≡◌, ℕ, zero, suc, ◌<◌, ◌≤◌, List, [], ◌∷◌, length, take, drop, None, slice_index_or, refl}
use Rattle.std.proofs.Common.{sym, ap, ◌∙◌, subst, le_of_suc-le-suc, not-suc-le-zero, arith}
use Rattle.std.proofs.lemmas.List.Sums.{sum_by-cons}
use Rattle.std.proofs.lemmas.List.{drop-drop}
use Rattle.std.specs.Coded.{×_prop, Π_prop, Unit-prop, le_prop}
use Rattle.std.proofs.Math.Nat.{ℕ_set}
use Rattle.lines.specs.Asks.{AllYes}
use Rattle.lines.specs.Lines.{no_line, Fair, Limits}
use Rattle.families.specs.Drafts.{Draft, drafts, lines_of, asked_from, questions, Counted, Found, Scaled, Sized, Bounded}
use Rattle.families.specs.Own.{start, own, Each}

pub length_lines : {T R : Type 0} (taken : T → ℕ) (draft : T → List R → Draft) (hs : List T) (rs : List R) → length (lines_of (drafts taken draft hs rs)) ≡ length hs
length_lines taken draft [] rs = refl
length_lines taken draft (h ∷ hs) rs = ap suc (length_lines taken draft hs (drop (taken h) rs))

-- the rows of a head, with one more head in front
pub own_cons : {T R : Type 0} (taken : T → ℕ) (h : T) (hs : List T) (rs : List R) (i : ℕ) (d : T) → own taken hs (drop (taken h) rs) i d ≡ own taken (h ∷ hs) rs (suc i) d
own_cons taken h hs rs i d =
    let e = drop-drop (start taken hs i) (taken h) rs ∙ ap (λ (n : ℕ). drop n rs) (sym (sum_by-cons taken h (take i hs))) in
    ap (take (taken (slice_index_or hs i d))) e

pub line_at : {T R : Type 0} (taken : T → ℕ) (draft : T → List R → Draft) (hs : List T) (rs : List R) (i : ℕ) (d : T) → i < length hs → slice_index_or (lines_of (drafts taken draft hs rs)) i no_line ≡ (draft (slice_index_or hs i d) (own taken hs rs i d)).line
line_at taken draft [] rs i d h = absurd (not-suc-le-zero h)
line_at taken draft (x ∷ hs) rs zero d h = refl
line_at taken draft (x ∷ hs) rs (suc i) d h =
    line_at taken draft hs (drop (taken x) rs) i d (le_of_suc-le-suc h) ∙ ap (λ rows. (draft (slice_index_or hs i d) rows).line) (own_cons taken x hs rs i d)

-- `long` says that a line of rows enough is at least a millimetre long.
pub draft_limits : {T R : Type 0} (taken : T → ℕ) (draft : T → List R → Draft) (hs : List T) (rs : List R) (d : T) → ((h : T) (rows : List R) → Scaled (draft h rows) → Sized (draft h rows) → 1 ≤ (draft h rows).line.len) → Counted taken hs rs → Each taken (λ h rows. Scaled (draft h rows)) hs rs d → Each taken (λ h rows. Sized (draft h rows)) hs rs d → Each taken (λ h rows. Bounded (draft h rows)) hs rs d → Limits (lines_of (drafts taken draft hs rs))
draft_limits taken draft hs rs d long counted scaled sized bounded = record {
  few = omega (arith, length_lines taken draft hs rs);
  fair = λ i h. let k : i < length hs = omega (arith, length_lines taken draft hs rs) in subst Fair (sym (line_at taken draft hs rs i d k)) (one i k);
}
  where
    one : (i : ℕ) → i < length hs → Fair (draft (slice_index_or hs i d) (own taken hs rs i d)).line
    one i k = record {
      len_low = long (slice_index_or hs i d) (own taken hs rs i d) (scaled i k) (sized i k);
      len_high = (sized i k).1;
      scale_low = (scaled i k).0;
      scale_high = (scaled i k).1;
      small = bounded i k;
    }

-- each head is found right where every question is answered yes
pub found_each : {T R : Type 0} (taken : T → ℕ) (draft : T → List R → Draft) (hs : List T) (rs : List R) (n : ℕ) (d : T) → AllYes (asked_from n (drafts taken draft hs rs)) → Each taken (λ h rows. Found (draft h rows) None) hs rs d
found_each taken draft [] rs n d y i h = absurd (not-suc-le-zero h)
found_each taken draft (x ∷ hs) rs n d y zero h = (y.0, y.1.0, y.1.1.0)
found_each taken draft (x ∷ hs) rs n d y (suc i) h =
    subst (λ rows. Found (draft (slice_index_or hs i d) rows) None) (own_cons taken x hs rs i d) (found_each taken draft hs (drop (taken x) rs) (suc n) d y.1.1.1 i (le_of_suc-le-suc h))

-- the same limits, where every question is answered yes
pub limits_of_yes : {T R : Type 0} (taken : T → ℕ) (draft : T → List R → Draft) (hs : List T) (rs : List R) → ((h : T) (rows : List R) → Scaled (draft h rows) → Sized (draft h rows) → 1 ≤ (draft h rows).line.len) → AllYes (questions taken draft hs rs) → Limits (lines_of (drafts taken draft hs rs))
limits_of_yes taken draft [] rs long y = record { few = omega arith; fair = λ i h. absurd (not-suc-le-zero h) }
limits_of_yes taken draft (x ∷ hs) rs long y =
    let f = found_each taken draft (x ∷ hs) rs 0 x y.1 in
    draft_limits taken draft (x ∷ hs) rs x long y.0 (λ i h. (f i h).0) (λ i h. (f i h).1) (λ i h. (f i h).2)

-- there is one proof at most that every question is answered yes, where there is one at most that a draft has rows enough
asked_from-prop : {T R : Type 0} (taken : T → ℕ) (draft : T → List R → Draft) (once : (h : T) (rows : List R) → IsProp (draft h rows).enough) (n : ℕ) (hs : List T) (rs : List R) → IsProp (AllYes (asked_from n (drafts taken draft hs rs)))
asked_from-prop taken draft once n [] rs = Unit-prop
asked_from-prop taken draft once n (h ∷ hs) rs =
    ×_prop (×_prop le_prop le_prop) (×_prop (×_prop (once h (take (taken h) rs)) le_prop) (×_prop (Π_prop λ _. Π_prop λ _. le_prop) (asked_from-prop taken draft once (suc n) hs (drop (taken h) rs))))

pub AllYes-prop : {T R : Type 0} (taken : T → ℕ) (draft : T → List R → Draft) (once : (h : T) (rows : List R) → IsProp (draft h rows).enough) (hs : List T) (rs : List R) → IsProp (AllYes (questions taken draft hs rs))
AllYes-prop taken draft once hs rs = ×_prop (×_prop le_prop (ℕ_set _ _)) (asked_from-prop taken draft once 0 hs rs)
