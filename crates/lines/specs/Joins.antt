-- The lines of one family and then those of another.
use Rattle.std.specs.Prelude.{◌≡◌, ◌-◌, List, ◌++◌, length, take, slice_index_or, refl}
use Rattle.std.proofs.Common.{sym, ◌∙◌, subst, ⊎_elim, arith, length-append, length-take}
use Rattle.std.proofs.lemmas.List.{get_or-take, get_or_append_left, get_or-append_right}
use Rattle.std.proofs.lemmas.Bool.{cases_lt}
use Rattle.lines.specs.Lines.{Line, no_line, Fair, Limits}

abbrev pub joined_lines : List Line → List Line → List Line
joined_lines xs ys = take 65535 (xs ++ ys)

pub joined_limits : (xs ys : List Line) → Limits xs → Limits ys → Limits (joined_lines xs ys)
joined_limits xs ys p q = record {
  few = omega (arith, length-take 65535 (xs ++ ys));
  fair = λ i h.
      let l = length-take 65535 (xs ++ ys) in
      let m = length-append xs ys in
      let t : slice_index_or (joined_lines xs ys) i no_line ≡ slice_index_or (xs ++ ys) i no_line = get_or-take 65535 (xs ++ ys) i no_line (omega arith) in
      ⊎_elim
      (λ k. subst Fair (sym (t ∙ get_or_append_left xs ys no_line i k)) (p.fair i k))
      (λ k. subst Fair (sym (t ∙ get_or-append_right xs ys (length xs) i no_line refl k)) (q.fair (i - length xs) (omega arith)))
      (cases_lt i (length xs));
}
