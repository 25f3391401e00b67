use Rattle.std.proofs.Common.{subst, arith}
use Rattle.loads.specs.declared.classes.Class.TheVariants.{Bk6, Bk8, BkT8, Bk10}
use Rattle.loads.specs.Sums.{Settled}
use Rattle.loads.proofs.Highest.{permitted, none_at, class_below}
use Rattle.loads.proofs.permits.class_of.Goals as goal

pub returns-then-bk6 : goal.returns-then-bk6
returns-then-bk6 c w l f ss s6 s8 st s10 =
    class_below w l f ss 0 Bk6 (omega arith) (omega arith) (omega arith)
    (permitted w l f ss 0 (none_at w l f ss Bk6 1 0 (omega arith)) (none_at w l f ss Bk8 2 0 (omega arith)) (none_at w l f ss BkT8 3 0 (omega arith)) (none_at w l f ss Bk10 4 0 (omega arith)))
    (subst (Settled w l f ss Bk6) c.if-bk6.true s6)

pub returns-then-bk8 : goal.returns-then-bk8
returns-then-bk8 c w l f ss s6 s8 st s10 =
    class_below w l f ss 1 Bk8 (omega arith) (omega arith) (omega arith)
    (permitted w l f ss 1 (λ _. subst (Settled w l f ss Bk6) c.if-bk6.false s6) (none_at w l f ss Bk8 2 1 (omega arith)) (none_at w l f ss BkT8 3 1 (omega arith)) (none_at w l f ss Bk10 4 1 (omega arith)))
    (subst (Settled w l f ss Bk8) c.if-bk8.true s8)

pub returns-then-bkt8 : goal.returns-then-bkt8
returns-then-bkt8 c w l f ss s6 s8 st s10 =
    class_below w l f ss 2 BkT8 (omega arith) (omega arith) (omega arith)
    (permitted w l f ss 2 (λ _. subst (Settled w l f ss Bk6) c.if-bk6.false s6) (λ _. subst (Settled w l f ss Bk8) c.if-bk8.false s8) (none_at w l f ss BkT8 3 2 (omega arith)) (none_at w l f ss Bk10 4 2 (omega arith)))
    (subst (Settled w l f ss BkT8) c.if-bkt8.true st)

pub returns-then-bk10 : goal.returns-then-bk10
returns-then-bk10 c w l f ss s6 s8 st s10 =
    class_below w l f ss 3 Bk10 (omega arith) (omega arith) (omega arith)
    (permitted w l f ss 3 (λ _. subst (Settled w l f ss Bk6) c.if-bk6.false s6) (λ _. subst (Settled w l f ss Bk8) c.if-bk8.false s8) (λ _. subst (Settled w l f ss BkT8) c.if-bkt8.false st) (none_at w l f ss Bk10 4 3 (omega arith)))
    (subst (Settled w l f ss Bk10) c.if-bk10.true s10)
