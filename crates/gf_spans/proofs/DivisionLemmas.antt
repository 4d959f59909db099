-- Where a whole number lies beside a quotient that is rounded down.
use Rattle.std.specs.Prelude.{◌≡◌, ℕ, zero, suc, ◌+◌, ◌*◌, ◌/◌, ◌<◌, ◌≤◌, Bool, true, false, not}
use Rattle.std.specs.Prelude.{◌&&◌, ℤ, pos, negsuc, ◌+ℤ◌, ◌-ℤ◌, ◌*ℤ◌, ◌≤ℤ◌, ◌<ℤ◌, int_lt, refl}
use Rattle.std.specs.Ordering.{int_eq}
use Rattle.std.specs.Int.{int_div_euclid}
use Rattle.std.proofs.Common.{arith, ap, sym, inl, inr, ◌∙◌, FitsSigned, w64, unsigned_abs}
use Rattle.std.proofs.Math.IntN.{neg_ℤ}
use Rattle.std.proofs.Math.Nat.{lt-mul-div-succ, mul-div-le, mul-le-mul, mul-le-mul_left}
use Rattle.std.proofs.lemmas.Bool.{cases_Bool}
use Rattle.std.proofs.lemmas.Int.{ints, by_lt_z, unsigned_abs-mul, fits_signed_mul}
use Rattle.std.proofs.lemmas.Int.{fits_signed_from_abs}
use Rattle.gf_spans.specs.Crossings.{is_at, place}

pub one_le_product : (k s : ℕ) → 0 < k → 0 < s → 0 < k * s
one_le_product k s h l = let x : k * 1 ≤ k * s = mul-le-mul_left k (omega arith) in omega arith

low_part : (a h q : ℕ) → 0 < h → a / h < q → a < h * q
low_part a h q p l = let x = lt-mul-div-succ a p in
    let y : h * (a / h + 1) ≤ h * q = mul-le-mul_left h (omega arith) in omega arith

high_part : (a h q : ℕ) → 0 < h → q ≤ a / h → h * q ≤ a
high_part a h q p l = let x = mul-div-le a h in let y : h * q ≤ h * (a / h) = mul-le-mul_left h l in
    omega arith

-- m is below h * t exactly if their quotient, rounded down, is below t
pub div_strict : (m t : ℤ) (h : ℕ) → 0 < h
    → int_lt m (pos h *ℤ t) ≡ int_lt (int_div_euclid m (pos h)) t
div_strict (pos a) (pos b) h p =
    by_lt_z (pos (a / h)) (pos b)
    (λ l. let x = low_part a h b p (omega (arith, ints)) in
    let f : int_lt (pos a) (pos h *ℤ pos b) ≡ true = grind (arith, ints) in
    let g : int_lt (pos (a / h)) (pos b) ≡ true = grind (arith, ints) in f ∙ sym g)
    (λ l. let x = high_part a h b p (omega (arith, ints)) in
    let f : int_lt (pos a) (pos h *ℤ pos b) ≡ false = grind (arith, ints) in
    let g : int_lt (pos (a / h)) (pos b) ≡ false = grind (arith, ints) in f ∙ sym g)
div_strict (pos a) (negsuc b) h p = let x = one_le_product h (b + 1) p (omega arith) in
    let f : int_lt (pos a) (pos h *ℤ negsuc b) ≡ false = grind (arith, ints) in f
div_strict (negsuc a) (pos b) h p = let f : int_lt (negsuc a) (pos h *ℤ pos b) ≡ true = grind
    (arith, ints) in f
div_strict (negsuc a) (negsuc b) h p =
    by_lt_z (negsuc (a / h)) (negsuc b)
    (λ l. let x = high_part a h (b + 1) p (omega (arith, ints)) in
    let f : int_lt (negsuc a) (pos h *ℤ negsuc b) ≡ true = grind (arith, ints) in
    let g : int_lt (negsuc (a / h)) (negsuc b) ≡ true = grind (arith, ints) in f ∙ sym g)
    (λ l. let x = low_part a h (b + 1) p (omega (arith, ints)) in
    let f : int_lt (negsuc a) (pos h *ℤ negsuc b) ≡ false = grind (arith, ints) in
    let g : int_lt (negsuc (a / h)) (negsuc b) ≡ false = grind (arith, ints) in f ∙ sym g)

lt_is : (m n : ℤ) → int_lt m n ≡ true → m <ℤ n
lt_is m n e = grind (arith, ints)

lt_not : (m n : ℤ) → int_lt m n ≡ false → n ≤ℤ m
lt_not m n e = grind (arith, ints)

lt_test : (m n : ℤ) → m <ℤ n → int_lt m n ≡ true
lt_test m n e = grind (arith, ints)

le_test : (m n : ℤ) → n ≤ℤ m → int_lt m n ≡ false
le_test m n e = grind (arith, ints)

pub eq_test : (m n : ℤ) → m ≡ n → int_eq m n ≡ true
eq_test m n e = grind (arith, ints)

pub ne_test : (m n : ℤ) → (m ≡ n → false ≡ true) → int_eq m n ≡ false
ne_test m n f = by_lt_z m n (λ l. grind (arith, ints))
    (λ l. by_lt_z n m (λ k. grind (arith, ints))
    (λ k. absurd (let e : m ≡ n = omega (arith, ints) in let x = f e in grind arith)))

pub less_ne : (m n : ℤ) → m <ℤ n → int_eq m n ≡ false
less_ne m n l = grind (arith, ints)

pub more_ne : (m n : ℤ) → n <ℤ m → int_eq m n ≡ false
more_ne m n l = grind (arith, ints)

less_below : (h : ℕ) (t : ℤ) → 0 < h → (pos h *ℤ t) <ℤ (pos h *ℤ (t +ℤ pos 1))
less_below h (pos b) p = let x : h * (b + 1) ≡ h * b + h = grind arith in omega (arith, ints)
less_below h (negsuc zero) p = omega (arith, ints)
less_below h (negsuc (suc b)) p =
    let x : h * (suc (suc b)) ≡ h * suc b + h = grind arith in
    let up : negsuc (suc b) +ℤ pos 1 ≡ negsuc b = omega (arith, ints) in
    rw up (omega (arith, ints))

-- the quotient of a multiple
pub div_exact : (t : ℤ) (h : ℕ) → 0 < h → int_div_euclid (pos h *ℤ t) (pos h) ≡ t
div_exact t h p =
    let a : t ≤ℤ int_div_euclid (pos h *ℤ t) (pos h) = lt_not _ _
    (sym (div_strict (pos h *ℤ t) t h p) ∙ le_test (pos h *ℤ t) (pos h *ℤ t) (omega (arith, ints)))
    in
    let b : int_div_euclid (pos h *ℤ t) (pos h) <ℤ (t +ℤ pos 1) = lt_is _ _
    (sym (div_strict (pos h *ℤ t) (t +ℤ pos 1) h p) ∙ lt_test _ _ (less_below h t p)) in
    omega (arith, ints)

-- the test of m against h * t by the quotient
pub div_equal : (m t : ℤ) (h : ℕ) → 0 < h
    → int_eq m (pos h *ℤ t) ≡ (int_eq (int_div_euclid m (pos h)) t && int_eq
    (pos h *ℤ int_div_euclid m (pos h)) m)
div_equal m t h p = elim (cases_Bool (int_eq (int_div_euclid m (pos h)) t)) [
  | inl e ↦ let q : int_div_euclid m (pos h) ≡ t = grind (arith, ints) in
      rw q (turned m (pos h *ℤ t) ∙ sym (ap (λ c. c && int_eq (pos h *ℤ t) m) (eq_test t t refl)))
  | inr e ↦ rw e (ne_test m (pos h *ℤ t) (λ k. sym e
      ∙ eq_test _ _ (ap (λ n. int_div_euclid n (pos h)) k ∙ div_exact t h p)))
]
  where
    turned : (m n : ℤ) → int_eq m n ≡ int_eq n m
    turned m n = by_lt_z m n (λ l. grind (arith, ints))
        (λ l. by_lt_z n m (λ k. grind (arith, ints)) (λ k. grind (arith, ints)))

-- the place x + run * rise / h lies before z exactly if run * rise is below h * (z - x)
pub place_before : (x run rise : ℤ) (h : ℕ) (z : ℤ) → 0 < h
    → int_lt (place x run rise (pos h)).floor z ≡ int_lt (run *ℤ rise) (pos h *ℤ (z -ℤ x))
unfolding place
place_before x run rise h z p = sym (div_strict (run *ℤ rise) (z -ℤ x) h p
    ∙ sym (moved_lt (int_div_euclid (run *ℤ rise) (pos h)) x z))
  where
    moved_lt : (q x z : ℤ) → int_lt (x +ℤ q) z ≡ int_lt q (z -ℤ x)
    moved_lt q x z = grind (arith, ints)

-- the place is z exactly if both are equal
pub place_at : (x run rise : ℤ) (h : ℕ) (z : ℤ) → 0 < h
    → is_at z (place x run rise (pos h)) ≡ int_eq (run *ℤ rise) (pos h *ℤ (z -ℤ x))
unfolding place
place_at x run rise h z p = sym (div_equal (run *ℤ rise) (z -ℤ x) h p
    ∙ sym (exactly (int_eq (pos h *ℤ int_div_euclid (run *ℤ rise) (pos h)) (run *ℤ rise))
    (int_div_euclid (run *ℤ rise) (pos h)) x z))
  where
    exactly : (e : Bool) (q x z : ℤ) → (int_eq (x +ℤ q) z && not (not e)) ≡ (int_eq q (z -ℤ x) && e)
    exactly e q x z =
        by_lt_z q (z -ℤ x)
        (λ l. rw (less_ne (x +ℤ q) z (omega (arith, ints)), less_ne q (z -ℤ x) l) refl)
        (λ l. by_lt_z (z -ℤ x) q
        (λ k. rw (more_ne (x +ℤ q) z (omega (arith, ints)), more_ne q (z -ℤ x) k) refl)
        (λ k. rw (
          eq_test (x +ℤ q) z (omega (arith, ints)),
          eq_test q (z -ℤ x) (omega (arith, ints)),
        ) (twice e)))
      where
        twice : (e : Bool) → not (not e) ≡ e
        twice true = refl
        twice false = refl

-- a quotient is no greater than a factor that takes the divisor past the number
pub quotient_small : (m : ℤ) (h n : ℕ) → 0 < h → unsigned_abs m ≤ n * h
    → unsigned_abs (int_div_euclid m (pos h)) ≤ n
quotient_small m h n p small =
    let x : h * (n + 1) ≡ n * h + h = grind arith in
    let y : h * n ≡ n * h = grind arith in
    let a : int_lt m (pos h *ℤ pos (n + 1)) ≡ true = lt_test m (pos h *ℤ pos (n + 1))
    (omega (arith, ints)) in
    let b : int_div_euclid m (pos h) <ℤ pos (n + 1) = lt_is (int_div_euclid m (pos h)) (pos (n + 1))
    (sym (div_strict m (pos (n + 1)) h p) ∙ a) in
    let d : int_lt m (pos h *ℤ neg_ℤ (pos n)) ≡ false = least n h m y small in
    let e : neg_ℤ (pos n) ≤ℤ int_div_euclid m (pos h) = lt_not (int_div_euclid m (pos h))
    (neg_ℤ (pos n)) (sym (div_strict m (neg_ℤ (pos n)) h p) ∙ d) in
    omega (arith, ints)
  where
    least : (n h : ℕ) (m : ℤ) → h * n ≡ n * h → unsigned_abs m ≤ n * h
        → int_lt m (pos h *ℤ neg_ℤ (pos n)) ≡ false
    least zero h m e s = le_test m (pos h *ℤ pos zero) (omega (arith, ints))
    least (suc n) h m e s = le_test m (pos h *ℤ negsuc n) (omega (arith, ints))

pub product_small : (run rise height : ℤ) (n : ℕ) → unsigned_abs run ≤ n
    → (pos 0 ≤ℤ rise) × (rise ≤ℤ height) → pos 0 <ℤ height
    → unsigned_abs (int_div_euclid (run *ℤ rise) height) ≤ n
product_small run rise (pos h) n a b p =
    let r : unsigned_abs rise ≤ h = omega (arith, ints) in
    quotient_small (run *ℤ rise) h n (omega (arith, ints))
    (rw (unsigned_abs-mul run rise) (mul-le-mul a r))
product_small run rise (negsuc h) n a b p = absurd (omega (arith, ints))

pub times_fits : (x y : ℤ) → unsigned_abs x ≤ 100000000 → unsigned_abs y ≤ 100000000
    → FitsSigned w64 (x *ℤ y)
times_fits x y h k = fits_signed_mul w64 x y 100000000 100000000 h k (omega arith)

pub quotient_of : (run rise across height : ℤ) → unsigned_abs run ≤ 100000000 → across ≡ run *ℤ rise
    → (pos 0 ≤ℤ rise) × (rise ≤ℤ height) → pos 0 <ℤ height
    → unsigned_abs (int_div_euclid across height) ≤ 100000000
quotient_of run rise across height a e b p = rw e (product_small run rise height 100000000 a b p)

pub small_fits : (n : ℤ) → unsigned_abs n ≤ 100000000 → FitsSigned w64 n
small_fits n h = fits_signed_from_abs w64 n (omega arith)
