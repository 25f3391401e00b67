use Rattle.std.proofs.Common.{negsuc, refl, ◌∙◌, arith, w64, SFits, rules}
use Rattle.std.proofs.lemmas.Int.{ints, to_z-of_z}
use Rattle.keeper.proofs.Steps.{up_first}
use Rattle.lane_search.specs.Groups.{at_three}
use Rattle.lane_search.specs.Readings.{line_read}
use Rattle.lane_search.proofs.Sampled.{read_short}
use Rattle.lane_search.proofs.Groups.{starts_before, starts_past}
use Rattle.lane_search.proofs.axles.furthest_start.Goals as goal

pub offer_starts-best-requires-clause-callable : goal.offer_starts-best-requires-clause-callable
offer_starts-best-requires-clause-callable g c = λ a b _ _ fits _ _ _.
    let near = c.args.axles.close in
    record { low = omega (arith, ints); high = omega (arith, ints) }

pub offer_starts-best-requires-2-clause-callable : goal.offer_starts-best-requires-2-clause-callable
offer_starts-best-requires-2-clause-callable g c = λ a b _ _ fits _ _ _.
    let short = c.args.sample.now.short in
    (omega (arith, ints), omega (arith, ints))

pub offer_starts-requires-clause-callable : goal.offer_starts-requires-clause-callable
offer_starts-requires-clause-callable g c = λ a b _ _ fits _ _ _.
    let short = c.args.sample.now.short in
    record { low = omega (arith, ints); high = omega (arith, ints) }

pub returns : goal.returns
returns g c =
    let short = c.args.sample.now.short in
    let len = read_short c.args.sample.now in
    let x = c.args.axles in
    let close = x.close in
    let l = line_read c.args.sample.now in
    let f = at_three l x.spacing x.weights in
    let s : SFits w64 c.at.result = search rules in
    let first = up_first g.S.Sense.order f (negsuc 15999) (negsuc 15998) _ _ refl
    c.new-first.ensures.place (simp to_z-of_z at c.new-first.ensures.sum ∙ c.at.ensures) in
    starts_past l x _ _ _ (omega (arith, ints)) (omega (arith, ints))
    (c.offer_starts.ensures f (λ a y b p. search rules)
    (c.offer_starts-best-2.ensures f (λ a y b p. search rules)
    (c.offer_starts-best.ensures f (λ a y b p. search rules)
    (starts_before l x _ _ _ (omega (arith, ints)) (omega (arith, ints)) first))))
