-- Numbers from 0 on, in their form.
use native.Mathlib.Omega.{arith}
use Rattle.std.proofs.Common.{◌≡◌, ◌^◌, ℕ, ℤ, pos, negsuc, nat_abs, nat_le, int_le, true}
use Rattle.std.proofs.Common.{false, ◌&&◌, List, [], ◌∷◌, refl}
use Rattle.std.specs.Prelude.{Option, Some, None, option_map, option_and_then}
use Rattle.serde_json.specs.Data.{Data, Items}
use Rattle.serde_json.specs.Find.{as_array}
use Rattle.gf_json.specs.LineForms.{◌&◌, both, elements, from_zero, natural, pair, whole}

-- ---- one number

pub from_zero-pos : (z : ℤ) → int_le (pos 0) z ≡ true → from_zero z ≡ nat_abs z
from_zero-pos (pos n) h = refl
from_zero-pos (negsuc n) h = absurd cc

pub from_zero-neg : (z : ℤ) → int_le (pos 0) z ≡ false → from_zero z ≡ 2 ^ 64
from_zero-neg (pos n) h = absurd (let k : nat_le 0 n ≡ true = grind arith in cc)
from_zero-neg (negsuc n) h = refl

pub ruleset signs = (from_zero-pos, from_zero-neg)

-- no number is below 0
pub up_to : (n high : ℕ) → (nat_le 0 n && nat_le n high) ≡ nat_le n high
up_to n high = grind arith

pub ruleset bounds = (up_to)

-- ---- of a value

-- a number from 0 on is a whole one
pub natural-whole : (o : Option Data) → option_and_then natural o
    ≡ option_map from_zero (option_and_then whole o)
natural-whole None = refl
natural-whole (Some d) = refl

-- two numbers from 0 on are two whole ones
pub pair-natural : (o : Option Data) → option_and_then (pair natural) o
    ≡ option_map (λ p. (from_zero p.0, from_zero p.1)) (option_and_then (pair whole) o)
pair-natural None = refl
pair-natural (Some d) = of_array (as_array d)
  where
    of_both : (x y : Option ℤ) → (option_map from_zero x & option_map from_zero y)
        ≡ option_map (λ p. (from_zero p.0, from_zero p.1)) (x & y)
    of_both None y = refl
    of_both (Some m) None = refl
    of_both (Some m) (Some n) = refl

    of_two : (es : List Data) → both natural es
        ≡ option_map (λ p. (from_zero p.0, from_zero p.1)) (both whole es)
    of_two [] = refl
    of_two (a ∷ []) = refl
    of_two (a ∷ b ∷ []) = of_both (whole a) (whole b)
    of_two (a ∷ b ∷ c ∷ es) = refl

    of_array : (o : Option Items) → option_and_then (both natural) (option_map elements o)
        ≡ option_map (λ p. (from_zero p.0, from_zero p.1))
        (option_and_then (both whole) (option_map elements o))
    of_array None = refl
    of_array (Some is) = of_two (elements is)

pub ruleset numbers = (natural-whole, pair-natural)
