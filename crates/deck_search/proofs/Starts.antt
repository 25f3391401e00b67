-- Layouts by where their first lane begins.
use Rattle.std.proofs.Common.{◌≡◌, ℕ, ◌+◌, ◌-◌, ◌*◌, ◌<◌, ◌≤◌, Bool, true, false, cond, leb, ◌⊎◌, List, [], ◌∷◌, length, refl, ap, subst, inl, inr, arith}
use Rattle.std.proofs.lemmas.Bool.{and_parts, leb-true, cases_lt}
use Rattle.loads.specs.declared.decks.Deck.{Deck}
use Rattle.loads.specs.Decks.{half, past}
use Rattle.deck_search.specs.declared.layouts.Slot.{Slot}
use Rattle.deck_search.specs.Rooms.{keeps, Stand, Room}

-- a lane takes 20 of the clear width, and reaches past an edge by 2 at most
pub sizes : (heavy raised : Bool) → (20 + past heavy raised ≤ 2 * half heavy) × (past heavy raised ≤ 2) × (half heavy ≤ 15)
sizes true true = (omega arith, omega arith, omega arith)
sizes true false = (omega arith, omega arith, omega arith)
sizes false true = (omega arith, omega arith, omega arith)
sizes false false = (omega arith, omega arith, omega arith)

pub ends : (w : Deck) (x : Slot) → keeps w x ≡ true → (half x.heavy ≤ x.centre + past x.heavy w.left) × (x.centre + half x.heavy ≤ w.width + past x.heavy w.right)
ends w x k =
    let p = and_parts (leb (half x.heavy) (x.centre + past x.heavy w.left)) (leb (x.centre + half x.heavy) (w.width + past x.heavy w.right)) k in
    (leb-true _ _ p.0, leb-true _ _ p.1)

-- each lane takes at least 20
pub long : (w : Deck) (s : ℕ) (x : Slot) (xs : List Slot) → Stand w s (x ∷ xs) → s + 20 * length (x ∷ xs) ≤ w.width + 2
long w s x [] h =
    let e = ends w x h.1 in
    let z = sizes x.heavy w.right in
    omega arith
long w s x (y ∷ ys) h =
    let r = long w (x.centre + 2 + half x.heavy) y ys h.2 in
    let z = sizes x.heavy w.right in
    omega arith

pub few_lanes : (w : Deck) (s : ℕ) (xs : List Slot) → w.width ≤ 120 → Stand w s xs → length xs ≤ 6
few_lanes w s [] wide h = omega arith
few_lanes w s (x ∷ xs) wide h = let r = long w s x xs h in omega arith

pub none_past : (w : Deck) (s : ℕ) (xs : List Slot) → w.width ≤ 120 → 102 < s → Stand w s xs → xs ≡ []
none_past w s [] wide lt h = refl
none_past w s (x ∷ xs) wide lt h = let r = long w s x xs h in absurd (omega arith)

earlier : (w : Deck) (s : ℕ) (xs : List Slot) → Stand w (s + 1) xs → Stand w s xs
earlier w s [] h = h
earlier w s (x ∷ xs) h = (omega arith, h.1, h.2)

-- The layouts that begin with x and go on as P has it.
abbrev pub Led : Slot → (List Slot → Type 0) → List Slot → Type 0
Led x P [] = ⊥
Led x P (y ∷ ys) = (y ≡ x) × P ys

-- The same, where x keeps within its width.
abbrev pub Tried : Deck → Slot → (List Slot → Type 0) → List Slot → Type 0
Tried w x P ys = (keeps w x ≡ true) × Led x P ys

-- The lanes that begin at s.
abbrev pub light_at : ℕ → Slot
light_at s = record { heavy = false; centre = s + 8 }

abbrev pub heavy_at : ℕ → Slot
heavy_at s = record { heavy = true; centre = s + 13 }

moved : (w : Deck) (a b : ℕ) (xs : List Slot) → a ≡ b → Stand w a xs → Stand w b xs
moved w a b xs e h = let P : ℕ → Type 0 = λ n. Stand w n xs in subst P e h

-- The layouts that begin after s, or with the light lane that begins there.
abbrev pub Lighter : Deck → ℕ → ℕ → List Slot → Type 0
Lighter w h s xs = Room w h (s + 1) xs ⊎ Tried w (light_at s) (Room w h (s + 20)) xs

-- The layouts that begin with the heavy lane that begins at s.
abbrev pub Heavier : Deck → ℕ → ℕ → List Slot → Type 0
Heavier w h s xs = Tried w (heavy_at s) (Room w (h - 1) (s + 30)) xs

-- a layout begins later, or with one of the lanes that begin at s
pub begins : (w : Deck) (h s : ℕ) (xs : List Slot) → Room w h s xs → Lighter w h s xs ⊎ ((0 < h) × Heavier w h s xs)
begins w h s [] r = inl (inl (tt, r.1))
begins w h s (x ∷ xs) r = by x.heavy x.centre r where
  by : (t : Bool) (c : ℕ) → Room w h s (record { heavy = t; centre = c } ∷ xs) → Lighter w h s (record { heavy = t; centre = c } ∷ xs) ⊎ ((0 < h) × Heavier w h s (record { heavy = t; centre = c } ∷ xs))
  by true c r =
      elim (cases_lt (s + 15) (c + 2)) [
        | inl lt ↦ inl (inl ((omega arith, r.0.1, r.0.2), r.1))
        | inr ge ↦ let e : c ≡ s + 13 = omega arith in
            inr (omega arith, (rw (← e) r.0.1, (ap (λ (n : ℕ). record { heavy = true; centre = n }) e, (moved w _ _ xs (omega arith) r.0.2, omega arith))))
      ]
  by false c r =
      elim (cases_lt (s + 10) (c + 2)) [
        | inl lt ↦ inl (inl ((omega arith, r.0.1, r.0.2), r.1))
        | inr ge ↦ let e : c ≡ s + 8 = omega arith in
            inl (inr (rw (← e) r.0.1, (ap (λ (n : ℕ). record { heavy = false; centre = n }) e, (moved w _ _ xs (omega arith) r.0.2, omega arith))))
      ]

-- and the other way round: where a layout begins with a lane right of s, it stands right of s
begun_room : (w : Deck) (l : Slot) (h n s e : ℕ) (xs : List Slot) → s + half l.heavy ≤ l.centre + 2 → e ≡ l.centre + 2 + half l.heavy → cond l.heavy 1 0 + n ≤ h → Tried w l (Room w n e) xs → Room w h s xs
begun_room w l h n s e [] right past few t = absurd t.1
begun_room w l h n s e (x ∷ xs) right past few t = rw t.1.0 ((right, t.0, rw (← past) t.1.1.0), omega arith)

pub lighter_room : (w : Deck) (h s : ℕ) (xs : List Slot) → Lighter w h s xs → Room w h s xs
lighter_room w h s xs a = elim a [
  | inl r ↦ (earlier w s xs r.0, r.1)
  | inr t ↦ begun_room w (light_at s) h h s (s + 20) xs (omega arith) (omega arith) (omega arith) t
]

pub heavier_room : (w : Deck) (h s : ℕ) (xs : List Slot) → 0 < h → Heavier w h s xs → Room w h s xs
heavier_room w h s xs lt t = begun_room w (heavy_at s) h (h - 1) s (s + 30) xs (omega arith) (omega arith) (omega arith) t
