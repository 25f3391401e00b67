-- Sizes of sums, and of what is spread over cells.
use Rattle.std.proofs.Common.{◌≡◌, ℕ, ◌+◌, ◌*◌, ◌^◌, ◌≤◌, ℤ, pos, ◌+ℤ◌, neg_ℤ, nat_abs, mul-le-mul_right, mul-le-mul, mul-le-mul_left, arith, w64, SFits}
use native.Mathlib.Nat.{mul-mul-mul_comm}
use mir.Syntax.{w128}
use borrow.Author.Differences.{ints}

-- a weight W that is spread over L cells, each of a double area of at most M
pub spread_small : (q w l m y n k : ℕ) → q * l ≤ n → w ≤ k → y ≤ l * m → q * w * y ≤ n * (k * m)
spread_small q w l m y n k h i j =
    let a : q * w * y ≤ q * w * (l * m) = mul-le-mul_left (q * w) j in
    let b : q * w * (l * m) ≡ q * l * (w * m) = mul-mul-mul_comm q w l m in
    let c : q * l * (w * m) ≤ n * (k * m) = mul-le-mul h (mul-le-mul_right m i) in
    omega arith

pub sum_small : (x y : ℤ) (m n : ℕ) → nat_abs x ≤ m → nat_abs y ≤ n → nat_abs (x +ℤ y) ≤ m + n
sum_small x y m n h k = omega (arith, ints)

pub fits_by : (z : ℤ) (m : ℕ) → nat_abs z ≤ m → m ≤ 9000000000000000000 → SFits w64 z
fits_by z m h k = omega (arith, ints)

pub fits_wide : (x y : ℤ) → nat_abs x ≤ 2 ^ 70 → nat_abs y ≤ 2 ^ 126 → SFits w128 (x +ℤ y)
fits_wide x y h k = omega (arith, ints)

pub fits_negative : (x : ℤ) → nat_abs x ≤ 2 ^ 70 → SFits w128 (pos 0 +ℤ neg_ℤ x)
fits_negative x h = omega (arith, ints)
