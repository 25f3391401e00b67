-- The line of a number among joined-lines lines. Assumes nothing.
use Rattle.std.proofs.Common.{◌+ℤ◌, ◌≡◌, ◌-◌, ◌<◌, ◌≤◌, List, ◌++◌, length, ℤ, pos, negsuc, ◌-ℤ◌, ◌≤ℤ◌, ◌<ℤ◌, sym, refl, ap, ◌∙◌, arith, length-append, length-take}
use borrow.Author.Differences.{ints}
use Rattle.std.proofs.lemmas.List.{get_or-take, get_or_append_left, get_or-append_right, get_or_past}
use Rattle.std.specs.Int.{int_min}
use Rattle.std.proofs.lemmas.Int.{int_min_is}
use Rattle.lines.specs.Lines.{Line, no_line, line_no}
use Rattle.lines.specs.Joins.{joined_lines}

pub joined_first : (xs ys : List Line) (i : ℤ) → length xs ≤ 65535 → i <ℤ pos (length xs) → line_no (joined_lines xs ys) i ≡ line_no xs i
joined_first xs ys (pos n) few h =
    let k : n < length xs = omega (arith, ints) in
    get_or-take 65535 (xs ++ ys) n no_line (omega arith) ∙ get_or_append_left xs ys no_line n k
joined_first xs ys (negsuc n) few h = refl

pub joined_second : (xs ys : List Line) (i : ℤ) → pos (length xs) ≤ℤ i → i <ℤ pos 65535 → line_no (joined_lines xs ys) i ≡ line_no ys (i -ℤ pos (length xs))
joined_second xs ys (pos n) low high =
    let k : length xs ≤ n = omega (arith, ints) in
    let e : pos n -ℤ pos (length xs) ≡ pos (n - length xs) = omega (arith, ints) in
    get_or-take 65535 (xs ++ ys) n no_line (omega (arith, ints)) ∙ get_or-append_right xs ys (length xs) n no_line refl k ∙ ap (line_no ys) (sym e)
joined_second xs ys (negsuc n) low high = absurd (omega (arith, ints))

pub joined_past : (xs ys : List Line) (i : ℤ) → pos 65535 ≤ℤ i → line_no (joined_lines xs ys) i ≡ no_line
joined_past xs ys (pos n) h = get_or_past (joined_lines xs ys) n no_line (omega (arith, ints, length-take 65535 (xs ++ ys)))
joined_past xs ys (negsuc n) h = refl

pub joined_count : (xs ys : List Line) {a b m : ℤ} → a ≡ pos (length xs) → b ≡ pos (length ys) → m ≡ int_min (a +ℤ b) (pos 65535) → m ≡ pos (length (joined_lines xs ys))
joined_count xs ys {a} {b} p q e =
    let t = length-take 65535 (xs ++ ys) in
    let u = length-append xs ys in
    let least = int_min_is (a +ℤ b) (pos 65535) in
    omega (arith, ints)
