-- Ordinates at and between stations.
use Rattle.std.proofs.Common.{◌≡◌, ℕ, suc, ◌+◌, ◌-◌, ◌*◌, ◌/◌, ◌%◌, ◌<◌, ◌≤◌, List, get_or, ℤ, pos, ◌+ℤ◌, ◌*ℤ◌, nat_abs, ap, ◌∙◌, ⊎_elim, mod-lt, length, Bool, true, false, MatchBool, Decides, refl, add-mul, mul-le-mul_left, zero-mul, mul-suc, arith}
use native.Mathlib.Nat.{mul-mod_right, mul-div_right, div-add-mod}
use borrow.Author.Differences.{ints}
use Rattle.std.specs.List.{AllWithin, HoldsAt}
use Rattle.std.proofs.lemmas.Bool.{cases_lt, false≢true}
use Rattle.families.specs.Stations.{between}
use Rattle.lines.proofs.Products.{abs_product}

-- where x falls between the stations
place_suc : (d m x : ℕ) → x ≤ d * m → 1 ≤ d → (x / d ≤ m) × (0 < x % d → x / d < m)
place_suc d m x within low =
    let e = div-add-mod x d in (
      ⊎_elim (λ h. let k : d * suc m ≤ d * (x / d) = mul-le-mul_left d h in let s = mul-suc d m in absurd (omega arith)) (λ h. h) (cases_lt m (x / d)),
      λ r. ⊎_elim (λ h. h) (λ h. let k : d * m ≤ d * (x / d) = mul-le-mul_left d h in absurd (omega arith)) (cases_lt (x / d) m),
    )

pub place : (d n x : ℕ) → 1 ≤ d → 2 ≤ n → x ≤ d * (n - 1) → (x / d < n) × (0 < x % d → x / d + 1 < n)
place d n x low two within = let p = place_suc d (n - 1) x within low in (omega arith, λ r. let q = p.1 r in omega arith)

-- a mean of a and b, with the weights e and r
mean : (e r a b m : ℕ) → (e + r) * a ≤ m → (e + r) * b ≤ m → e * a + r * b ≤ m
mean e r a b m p q =
    let ea = add-mul e r a in
    let eb = add-mul e r b in
    ⊎_elim
    (λ h. let k : e * a ≤ e * b = mul-le-mul_left e (omega arith) in omega arith)
    (λ h. let k : r * b ≤ r * a = mul-le-mul_left r h in omega arith)
    (cases_lt a b)

-- between two stations an ordinate is no larger than at them
pub between_small : (d m : ℕ) (ys : List ℤ) (n x : ℕ) → 1 ≤ d → 2 ≤ n → x ≤ d * (n - 1) → ((j : ℕ) → j < n → d * nat_abs (get_or ys j (pos 0)) ≤ m) → nat_abs (between d ys x) ≤ m
between_small d m ys n x low two within all =
    let y = get_or ys (x / d) (pos 0) in
    let z = get_or ys (x / d + 1) (pos 0) in
    let at = place d n x low two within in
    let p = all (x / d) at.0 in
    let f = abs_product (pos (d - x % d)) y in
    let g = abs_product (pos (x % d)) z in
    let less = mod-lt x low in
    let e : (d - x % d) + x % d ≡ d = omega arith in
    let sum : nat_abs (between d ys x) ≤ (d - x % d) * nat_abs y + x % d * nat_abs z = omega (arith, ints) in
    ⊎_elim
    (λ h.
    let q = all (x / d + 1) (at.1 h) in
    let k = mean (d - x % d) (x % d) (nat_abs y) (nat_abs z) m (rw e p) (rw e q) in
    omega arith)
    (λ h.
    let r : x % d ≡ 0 = omega arith in
    let s : x % d * nat_abs z ≡ 0 = rw r (zero-mul (nat_abs z)) in
    let t : (d - x % d) * nat_abs y ≡ d * nat_abs y = rw r (ap (λ (w : ℕ). w * nat_abs y) (omega arith)) in
    omega arith)
    (cases_lt 0 (x % d))

-- the ordinate at a station
pub at_station : (d : ℕ) (ys : List ℤ) (j : ℕ) → 1 ≤ d → nat_abs (between d ys (d * j)) ≡ d * nat_abs (get_or ys j (pos 0))
at_station d ys j low =
    let x = d * j in
    let r : x % d ≡ 0 = mul-mod_right d j in
    let q : x / d ≡ j = mul-div_right j low in
    let e : d - x % d ≡ d = omega arith in
    let f = abs_product (pos d) (get_or ys j (pos 0)) in
    let g = abs_product (pos 0) (get_or ys (j + 1) (pos 0)) in
    let z = zero-mul (nat_abs (get_or ys (j + 1) (pos 0))) in
    let v : between d ys x ≡ pos d *ℤ get_or ys j (pos 0) +ℤ pos 0 *ℤ get_or ys (j + 1) (pos 0) = cc (r, q, e) in
    ap nat_abs v ∙ omega (arith, ints)

-- stations of which one is too large
pub station_large : (d m : ℕ) (ys : List ℤ) (n j : ℕ) → 1 ≤ d → j < n → (d * nat_abs (get_or ys j (pos 0)) ≤ m → ⊥) → ((x : ℕ) → x ≤ d * (n - 1) → nat_abs (between d ys x) ≤ m) → ⊥
station_large d m ys n j low lt big all =
    let k : d * j ≤ d * (n - 1) = mul-le-mul_left d (omega arith) in
    let p = all (d * j) k in
    let e = at_station d ys j low in
    big (omega arith)

-- whether all stations are small decides whether all ordinates are
pub decided_at_stations : (d m : ℕ) (ys : List ℤ) (r : Bool) → 1 ≤ d → 2 ≤ length ys → MatchBool r (AllWithin (λ y. d * nat_abs y ≤ m) ys 0 (length ys)) ((k : ℕ) × (k < length ys) × HoldsAt (λ y. d * nat_abs y ≤ m → ⊥) ys k) → Decides r ((x : ℕ) → x ≤ d * (length ys - 1) → nat_abs (between d ys x) ≤ m)
decided_at_stations d m ys true low two all = (λ _ x within. between_small d m ys (length ys) x low two within (λ j there. all j (pos 0) (omega arith) there), λ _. refl)
decided_at_stations d m ys false low two one = (λ e. absurd (false≢true e), λ small. absurd (station_large d m ys (length ys) one.0 low one.1 (one.2 (pos 0)) small))
