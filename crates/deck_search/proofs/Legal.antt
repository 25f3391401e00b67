-- A legal layout is one with room right of the left edge.
use Rattle.std.proofs.Common.{◌≡◌, ℕ, ◌+◌, Bool, true, leb, List, [], ◌∷◌, ℤ, pos, ◌+ℤ◌, ◌≤ℤ◌, arith}
use Rattle.std.specs.List.{AllByRecursion}
use Rattle.std.proofs.lemmas.Int.{ints}
use Rattle.std.proofs.lemmas.Bool.{and_from, le-leb}
use Rattle.keeper.specs.Worst.{Worst}
use Rattle.keeper.proofs.Steps.{worst_same}
use Rattle.loads.specs.declared.decks.Deck.{Deck}
use Rattle.loads.specs.Decks.{half, past}
use Rattle.deck_search.specs.declared.layouts.Slot.{Slot}
use Rattle.deck_search.specs.Layouts.{slot_left, SlotWithin, SlotBefore, SlotsApart, LegalLayout}
use Rattle.deck_search.specs.Rooms.{keeps, Stand, Room}
use Rattle.deck_search.proofs.Starts.{sizes, ends}

-- The first lane begins at s or after it; s counts from 2 dm left of the clear width.
abbrev After : ℕ → List Slot → Type 0
After s [] = Unit {0}
After s (x ∷ xs) = pos s ≤ℤ (slot_left x +ℤ pos 2)

within_keeps : (w : Deck) (x : Slot) → SlotWithin w x → keeps w x ≡ true
within_keeps w x i =
    and_from (leb (half x.heavy) (x.centre + past x.heavy w.left)) (leb (x.centre + half x.heavy) (w.width + past x.heavy w.right))
    (le-leb _ _ (omega (arith, ints))) (le-leb _ _ (omega (arith, ints)))

keeps_within : (w : Deck) (x : Slot) → keeps w x ≡ true → SlotWithin w x
keeps_within w x k = let e = ends w x k in record { from = omega (arith, ints); to = omega (arith, ints) }

before_after : (x : Slot) (xs : List Slot) → SlotBefore x xs → After (x.centre + 2 + half x.heavy) xs
before_after x [] b = tt
before_after x (y ∷ ys) b = omega (arith, ints)

after_before : (x : Slot) (xs : List Slot) → After (x.centre + 2 + half x.heavy) xs → SlotBefore x xs
after_before x [] a = tt
after_before x (y ∷ ys) a = omega (arith, ints)

stands : (w : Deck) (s : ℕ) (xs : List Slot) → AllByRecursion (SlotWithin w) xs → SlotsApart xs → After s xs → Stand w s xs
stands w s [] i b a = tt
stands w s (x ∷ xs) i b a =
    (omega (arith, ints), within_keeps w x i.0, stands w (x.centre + 2 + half x.heavy) xs i.1 b.1 (before_after x xs b.0))

apart : (w : Deck) (s : ℕ) (xs : List Slot) → Stand w s xs → AllByRecursion (SlotWithin w) xs × SlotsApart xs × After s xs
apart w s [] h = (tt, tt, tt)
apart w s (x ∷ xs) h =
    let r = apart w (x.centre + 2 + half x.heavy) xs h.2 in
    let le = h.0 in
    ((keeps_within w x h.1, r.0), (after_before x xs r.2, r.1), omega (arith, ints))

from_edge : (w : Deck) (xs : List Slot) → AllByRecursion (SlotWithin w) xs → After 0 xs
from_edge w [] i = tt
from_edge w (x ∷ xs) i =
    let z = sizes x.heavy w.left in
    let f = i.0.from in
    omega (arith, ints)

room_legal : (w : Deck) (xs : List Slot) → Room w 2 0 xs → LegalLayout w xs
room_legal w xs r = let a = apart w 0 xs r.0 in record { within = a.0; apart = a.1; two_heavy = r.1 }

legal_room : (w : Deck) (xs : List Slot) → LegalLayout w xs → Room w 2 0 xs
legal_room w xs l = (stands w 0 xs l.within l.apart (from_edge w xs l.within), l.two_heavy)

pub worst_legal : {beyond : ℤ → ℤ → Bool} {f : List Slot → ℤ} {s : ℤ} {p : List Slot} (w : Deck) (h : ℕ) → h ≡ 2 → Worst beyond f (Room w h 0) s p → Worst beyond f (LegalLayout w) s p
worst_legal w h e v = worst_same (LegalLayout w) (rw e at v) (room_legal w) (legal_room w)
