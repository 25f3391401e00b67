-- The figures worked out by hand follow from the definitions by computing.
use Rattle.std.proofs.Common.{refl, arith, rules}
use borrow.Author.Differences.{ints}
use Rattle.lines.specs.Cells.{under}
use Rattle.traffic.specs.Figures.{FiguresHold}

pub figures_hold : FiguresHold
unfolding under
figures_hold = (
  (search rules, refl),
  (
    (search rules, refl),
    (
      (search rules, refl),
      (
        (search rules, refl),
        (
          (search rules, refl),
          (
            (search rules, refl),
            (
              (search rules, refl),
              (
                (search rules, λ h. absurd (omega (arith, ints, h.placed.0.1.high))),
                (
                  search rules,
                  (
                    (search rules, λ h. absurd (omega (arith, ints, h.within.1.0.to))),
                    (
                      search rules,
                      (
                        (search rules, λ h. absurd (omega (arith, ints, h.within.0.from))),
                        (
                          (search rules, λ h. absurd (omega (arith, ints, h.within.0.from))),
                          tt,
                        ),
                      ),
                    ),
                  ),
                ),
              ),
            ),
          ),
        ),
      ),
    ),
  ),
)
