use Rattle.std.proofs.Common.{◌≡◌, true, sym, ◌∙◌, arith, rules}
use Rattle.std.proofs.lemmas.Int.{ints}
use Rattle.deck_search.specs.Layouts.{slots_of}
use Rattle.deck_search.specs.Rooms.{keeps}
use Rattle.deck_search.proofs.Sizes.{room_left, rest_small}
use Rattle.deck_search.proofs.layout_search.Search.try_slot.Goals as goal

pub overflow_add-rest : goal.overflow_add-rest
overflow_add-rest g c =
    let k : keeps c.args.self.now.deck c.args.slot ≡ true = sym c.fits.ensures ∙ c.if-not-fits.false in
    let small = rest_small c.args.self.now.deck c.args.self.now.worths.now c.args.slot (slots_of c.args.rest.place) c.args.self.now.widest k c.requires.right in
    let e = c.requires.reached in
    omega (arith, ints)

pub led_by-requires : goal.led_by-requires
led_by-requires g c =
    let k : keeps c.args.self.now.deck c.args.slot ≡ true = sym c.fits.ensures ∙ c.if-not-fits.false in
    room_left c.args.self.now.deck c.args.slot c.args.rest.place c.args.self.now.widest (search rules) k c.requires.right

pub returns : goal.returns
returns g c =
    let k : keeps c.args.self.now.deck c.args.slot ≡ true = sym c.fits.ensures ∙ c.if-not-fits.false in
    let small = rest_small c.args.self.now.deck c.args.self.now.worths.now c.args.slot (slots_of c.args.rest.place) c.args.self.now.widest k c.requires.right in
    let e = c.requires.reached in
    record { sum = search rules; place = search rules }
