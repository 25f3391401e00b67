-- What is found of one head after the other, and what a check tells of all.
use Rattle.std.proofs.Common.{◌≡◌, ℕ, suc, ◌+◌, ◌<◌, List, ◌∷◌, length, get_or, take, drop, Some, None, Ok, Err, Result, sym, refl, ap, ◌∙◌, subst, inl, inr, ⊎_elim, add-one}
use Rattle.std.proofs.lemmas.List.Sums.{sum_by_more}
use Rattle.std.proofs.lemmas.List.{drop_more, drop-drop}
use Rattle.lines.specs.Asks.{Asks, none, AllYes, FirstNo}
use Rattle.lines.proofs.Asking.{no_first_no, one_first_no}
use Rattle.families.specs.declared.questions.Question.{Question}
use Rattle.families.specs.declared.questions.Refusal.{Refusal}
use Rattle.families.specs.Drafts.{Draft, drafts, Found, asked_of, asked_from, Tells}
use Rattle.families.specs.Own.{start}

-- where the rows of the next head begin
pub start_more : {T : Type 0} (taken : T → ℕ) (hs : List T) (k : ℕ) (h : T) → k < length hs → h ≡ get_or hs k h → start taken hs (k + 1) ≡ start taken hs k + taken h
start_more taken hs k h lt e = sum_by_more taken hs k h lt ∙ ap (λ w. start taken hs k + taken w) (sym e)

-- The drafts of the heads from i on.
abbrev pub rest : {T R : Type 0} → (T → ℕ) → (T → List R → Draft) → List T → List R → ℕ → List Draft
rest taken draft hs rs i = drafts taken draft (drop i hs) (drop (start taken hs i) rs)

-- What is asked of the heads from i on decides what is asked of all.
pub record Led {T R : Type 0} (taken : T → ℕ) (draft : T → List R → Draft) (hs : List T) (rs : List R) (i : ℕ) : Type 0 where
  pub yes_all : AllYes (asked_from i (rest taken draft hs rs i)) → AllYes (asked_from 0 (drafts taken draft hs rs))
  pub no_first : (q : Question) (m : ℕ) → FirstNo (asked_from i (rest taken draft hs rs i)) q m → FirstNo (asked_from 0 (drafts taken draft hs rs)) q m

-- The rows own of the head h, which stands at i.
pub record OwnOf {T R : Type 0} (taken : T → ℕ) (hs : List T) (rs : List R) (i : ℕ) (h : T) (own : List R) : Type 0 where
  pub there : i < length hs
  pub head : h ≡ get_or hs i h
  pub rows : own ≡ take (taken h) (drop (start taken hs i) rs)

rest_more : {T R : Type 0} (taken : T → ℕ) (draft : T → List R → Draft) (hs : List T) (rs : List R) (i : ℕ) (h : T) (own : List R) → OwnOf taken hs rs i h own → rest taken draft hs rs i ≡ draft h own ∷ rest taken draft hs rs (i + 1)
rest_more taken draft hs rs i h own o =
    let s = start taken hs i in
    let a : drop i hs ≡ h ∷ drop (i + 1) hs = drop_more hs i h o.there ∙ ap (λ w. w ∷ drop (i + 1) hs) (sym o.head) in
    let b = drop-drop (taken h) s rs ∙ ap (λ n. drop n rs) (sym (start_more taken hs i h o.there o.head)) in
    ap (λ w. drafts taken draft w (drop s rs)) a
    ∙ ap (λ w. draft h (take (taken h) (drop s rs)) ∷ drafts taken draft (drop (i + 1) hs) w) b
    ∙ ap (λ w. draft h w ∷ rest taken draft hs rs (i + 1)) (sym o.rows)

pub led_more : {T R : Type 0} (taken : T → ℕ) (draft : T → List R → Draft) (hs : List T) (rs : List R) (i : ℕ) (h : T) (own : List R) → OwnOf taken hs rs i h own → Found (draft h own) None → Led taken draft hs rs i → Led taken draft hs rs (i + 1)
led_more taken draft hs rs i h own o found led =
    let m = sym (rest_more taken draft hs rs i h own o) in
    let ds = rest taken draft hs rs (i + 1) in
    record {
      yes_all = λ y. led.yes_all (subst (λ w. AllYes (asked_from i w)) m (found.0, (found.1, (found.2, subst (λ n. AllYes (asked_from n ds)) (add-one i) y))));
      no_first = λ q n f. led.no_first q n (subst (λ w. FirstNo (asked_from i w) q n) m (inr (found.0, inr (found.1, inr (found.2, subst (λ k. FirstNo (asked_from k ds) q n) (add-one i) f)))));
    }

-- the first no of a draft, at head i with more to come
blamed : (d : Draft) (q : Question) (i : ℕ) (more : Asks Question) → FirstNo (asked_of 0 d none) q 0 → FirstNo (asked_of i d more) q i
blamed d q i more =
    ⊎_elim
    (λ a. inl (a.0, a.1, refl))
    (λ a. inr (a.0, ⊎_elim (λ b. inl (b.0, b.1, refl)) (λ b. inr (b.0, ⊎_elim (λ c. inl (c.0, c.1, refl)) (λ c. absurd c.1) b.1)) a.1))

pub led_no : {T R : Type 0} (taken : T → ℕ) (draft : T → List R → Draft) (hs : List T) (rs : List R) (i : ℕ) (h : T) (own : List R) (q : Question) → OwnOf taken hs rs i h own → Found (draft h own) (Some q) → Led taken draft hs rs i → FirstNo (asked_from 0 (drafts taken draft hs rs)) q i
led_no taken draft hs rs i h own q o f led =
    led.no_first q i (subst (λ w. FirstNo (asked_from i w) q i) (sym (rest_more taken draft hs rs i h own o)) (blamed (draft h own) q i (asked_from (suc i) (rest taken draft hs rs (i + 1))) f))

same_refusal : (f g : Refusal) → f.question ≡ g.question → f.head ≡ g.head → f ≡ g
same_refusal f g a b = ap (λ (q : Question). record { question = q; head = f.head }) a ∙ ap (λ (n : ℕ). record { question = g.question; head = n }) b

-- a check has one answer
pub told_once : (qs : Asks Question) (a b : Result (Unit {0}) Refusal) → Tells qs a → Tells qs b → a ≡ b
told_once qs (Ok _) (Ok _) y z = refl
told_once qs (Ok _) (Err f) y z = absurd (no_first_no qs f.question f.head y z)
told_once qs (Err f) (Ok _) y z = absurd (no_first_no qs f.question f.head z y)
told_once qs (Err f) (Err g) y z = let e = one_first_no qs f.question g.question f.head g.head y z in ap Err (same_refusal f g e.0 e.1)
