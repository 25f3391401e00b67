-- Arrays that are filled from their start: what lanes add at each centre, and the lanes of a record.
use Rattle.std.proofs.Common.{◌≡◌, ℕ, suc, ◌+◌, ◌<◌, Bool, List, [], ◌∷◌, ◌++◌, map, length, get_or, take, drop, set, ℤ, pos, sym, ap, ◌∙◌, add-one, arith, length-set, drop-cons, drop-set-lt}
use Rattle.std.specs.List.{AllByRecursion}
use Rattle.std.proofs.lemmas.List.{map-append, map-set, length-map, take_more, take_more_set}
use Rattle.std.proofs.lemmas.List.Edits.{fill_by_more}
use Rattle.traffic.specs.declared.records.LaneRecord.{LaneRecord}
use Rattle.traffic.specs.Records.{blank}
use Rattle.deck_search.specs.declared.layouts.Slot.{Slot}
use Rattle.deck_search.specs.declared.worths.Worth.{Worth}
use Rattle.deck_search.specs.Layouts.{of_kind}

-- what lanes of a kind add, for one centre more
pub worths_turn : (f : ℕ → ℤ) (h : Bool) (k : ℕ) (vs : List Worth) (v : Worth) → k < length vs → of_kind h v ≡ f k →
    ((j : ℕ) → j < k → get_or (map (of_kind h) vs) j (pos 0) ≡ f j) → (j : ℕ) → j < k + 1 → get_or (map (of_kind h) (set vs k v)) j (pos 0) ≡ f j
worths_turn f h k vs v in_row e so_far =
    rw (map-set, e) (fill_by_more f (map (of_kind h) vs) k (pos 0) (omega (arith, length-map vs (of_kind h))) so_far)

-- the first i of six lanes are those of the slots, the others blank
pub record Laned (lane : Slot → LaneRecord) (slots : List Slot) (i : ℕ) (lanes : List LaneRecord) : Type 0 where
  pub long : length lanes ≡ 6
  pub used : take i lanes ≡ map lane (take i slots)
  pub past : AllByRecursion (λ x. x ≡ blank) (drop i lanes)

pub lanes_turn : (lane : Slot → LaneRecord) (slots : List Slot) (i : ℕ) (lanes : List LaneRecord) (d : Slot) (v : LaneRecord) → Laned lane slots i lanes → i < 6 → i < length slots → v ≡ lane (get_or slots i d) → Laned lane slots (i + 1) (set lanes i v)
lanes_turn lane slots i lanes d v r lt in-slots e =
    let long = r.long in
    let in_row : i < length lanes = omega arith in
    let rest : AllByRecursion (λ x. x ≡ blank) (get_or lanes i blank ∷ drop (suc i) lanes) = rw (drop-cons lanes i blank in_row) at r.past in
    let over : i < suc i = omega arith in
    record {
      long = length-set lanes i v ∙ r.long;
      used = take_more_set lanes i v in_row
          ∙ ap (λ (xs : List LaneRecord). xs ++ (v ∷ [])) r.used
          ∙ ap (λ (x : LaneRecord). map lane (take i slots) ++ (x ∷ [])) e
          ∙ sym (map-append lane (take i slots) (get_or slots i d ∷ []))
          ∙ ap (map lane) (sym (take_more slots i d in-slots));
      past = rw (add-one, drop-set-lt (suc i) lanes i v over) rest.1;
    }
