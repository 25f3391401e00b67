-- The effect of a group of axles, from its axles.
use Rattle.std.proofs.Common.{◌≡◌, ℕ, ℤ, pos, ◌+ℤ◌, ◌*ℤ◌, ap, ◌∙◌, arith}
use borrow.Author.Differences.{ints}
use lib.IntN.{zero-*ℤ}
use Rattle.lines.specs.Lines.{Line, ordinate_or_zero}
use Rattle.loads.specs.declared.load_sets.Loads.{Loads}
use Rattle.loads.specs.declared.load_sets.Group.{Group}
use Rattle.loads.specs.declared.load_sets.Group.TheVariants.{Single, Bogie12, Bogie21, Triple211, Triple121, Triple112}
use Rattle.loads.specs.Loads.{weights, padded, at_axles}

-- a group's weights, as three
pub axles_are : (l : Line) (d : ℕ) (a : ℤ) (t : Loads) (g : Group) (ws : ℕ × ℕ × ℕ) → ws ≡ padded (weights t g)
    → pos ws.0 *ℤ ordinate_or_zero l a +ℤ (pos ws.1 *ℤ ordinate_or_zero l (a +ℤ pos d) +ℤ pos ws.2 *ℤ ordinate_or_zero l (a +ℤ pos d +ℤ pos d)) ≡ at_axles l d a (weights t g)
axles_are l d a t g ws e =
    ap (λ (ws : ℕ × ℕ × ℕ). pos ws.0 *ℤ ordinate_or_zero l a +ℤ (pos ws.1 *ℤ ordinate_or_zero l (a +ℤ pos d) +ℤ pos ws.2 *ℤ ordinate_or_zero l (a +ℤ pos d +ℤ pos d))) e ∙ by_group g
  where
    by_group : (g : Group) → let ws = padded (weights t g) in pos ws.0 *ℤ ordinate_or_zero l a +ℤ (pos ws.1 *ℤ ordinate_or_zero l (a +ℤ pos d) +ℤ pos ws.2 *ℤ ordinate_or_zero l (a +ℤ pos d +ℤ pos d)) ≡ at_axles l d a (weights t g)
    by_group Single = omega (arith, ints, zero-*ℤ (ordinate_or_zero l (a +ℤ pos d)), zero-*ℤ (ordinate_or_zero l (a +ℤ pos d +ℤ pos d)))
    by_group Bogie12 = omega (arith, ints, zero-*ℤ (ordinate_or_zero l (a +ℤ pos d +ℤ pos d)))
    by_group Bogie21 = omega (arith, ints, zero-*ℤ (ordinate_or_zero l (a +ℤ pos d +ℤ pos d)))
    by_group Triple211 = omega (arith, ints)
    by_group Triple121 = omega (arith, ints)
    by_group Triple112 = omega (arith, ints)

pub parts_are : (x y z p q r s : ℤ) → x ≡ p → y ≡ q → z ≡ r → p +ℤ (q +ℤ r) ≡ s → x +ℤ (y +ℤ z) ≡ s
parts_are x y z p q r s a b c d = cc
