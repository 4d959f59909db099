-- Differences and products of gaps between coordinates, in 128 bits.
use Rattle.std.proofs.Common.{ℤ, ◌+ℤ◌, ◌-ℤ◌, ◌*ℤ◌, ◌≤◌, ◌^◌, arith, FitsSigned, unsigned_abs}
use mir.Syntax.{w128}
use Rattle.std.proofs.lemmas.Int.{ints, fits_signed_mul, fits_signed_from_abs}

pub difference_fits : (x y : ℤ) → unsigned_abs x ≤ 2 ^ 64 → unsigned_abs y ≤ 2 ^ 64
    → FitsSigned w128 (x -ℤ y)
difference_fits x y h k = omega (arith, ints)

pub sum_fits : (x y : ℤ) → unsigned_abs x ≤ 2 ^ 64 → unsigned_abs y ≤ 2 ^ 64
    → FitsSigned w128 (x +ℤ y)
sum_fits x y h k = omega (arith, ints)

pub wide : (x : ℤ) → unsigned_abs x ≤ 2 ^ 32 → FitsSigned w128 x
wide x h = fits_signed_from_abs w128 x (omega arith)

pub product_fits : (x y : ℤ) → unsigned_abs x ≤ 2 ^ 32 → unsigned_abs y ≤ 2 ^ 32
    → FitsSigned w128 (x *ℤ y)
product_fits x y h k = fits_signed_mul w128 x y (2 ^ 32) (2 ^ 32) h k (omega arith)
