-- Numbers and colours that are printed are read back.
use Rattle.std.proofs.Common.{◌≡◌, ◌≢◌, ◌≤◌, ◌<◌, ℕ, suc, ◌+◌, ◌*◌, ◌-◌, ◌/◌, ◌%◌, ◌^◌, true, false}
use Rattle.std.proofs.Common.{List, [], ◌∷◌, ◌++◌, length, Some, refl, ap, ◌∙◌, arith, inl, inr}
use Rattle.std.proofs.Common.{lit<}
use Rattle.std.specs.Prelude.{◌&&◌, ◌==◌, nat_le, nat_lt, ℤ, pos, negsuc, ◌-ℤ◌}
use Rattle.std.specs.Fmt.{decimal, signed_decimal, digit_glyph}
use Rattle.std.specs.List.{list_all}
use Rattle.std.specs.Int.Signed.{mag}
use Rattle.std.proofs.lemmas.Bool.{and_parts, and_from, or_parts, cases_Bool, le-leb, leb-true}
use Rattle.std.proofs.lemmas.Bool.{ne_eqb}
use Rattle.std.proofs.lemmas.List.Folds.{list_all-append}
use Rattle.std.proofs.lemmas.List.Sums.{fold_push}
use Rattle.std.proofs.lemmas.Fmt.{decimal_by_steps, length-decimal-le}
use Rattle.std.proofs.Math.Nat.{div-add-mod}
use Rattle.gf_plane.specs.declared.colour.Rgb.{Rgb}
use Rattle.gf_plane.specs.ColourBytes.{HasBytes}
use Rattle.gf_plane.specs.HexDigits.{hex_rgb}
use Rattle.gf_plane.proofs.HexLemmas.{rgb_of_hex-hex_rgb}
use Rattle.gf_fig_tokens.specs.Layout.{is_filled}
use Rattle.gf_fig_tokens.specs.Forms.{is_digit, is_sign, digits_value, whole, colour}
use Rattle.gf_fig_write.proofs.PrintedLines.{is_dark, is_word}

-- ---- bytes

digit_from : (b : ℕ) → 48 ≤ b → b ≤ 57 → is_digit b ≡ true
digit_from b l h = and_from (nat_le 48 b) (nat_le b 57) (le-leb 48 b l) (le-leb b 57 h)

record Between (b : ℕ) : Type 0 where
  least : 48 ≤ b
  most : b ≤ 57

digit_is : (b : ℕ) → is_digit b ≡ true → Between b
digit_is b h = let p = and_parts (nat_le 48 b) (nat_le b 57) h in record {
  least = leb-true 48 b p.0;
  most = leb-true b 57 p.1;
}

is_not : (b k : ℕ) → b ≢ k → (b == k) ≡ false
is_not b k h = ne_eqb b k h

above_dark : (b : ℕ) → 48 ≤ b → is_dark b ≡ true
above_dark b l = rw (
  is_not b 32 (omega (arith, l)),
  is_not b 9 (omega (arith, l)),
  is_not b 13 (omega (arith, l)),
  is_not b 10 (omega (arith, l)),
) refl

digit_dark : (b : ℕ) → is_digit b ≡ true → is_dark b ≡ true
digit_dark b h = above_dark b (digit_is b h).least

digit_no_sign : (b : ℕ) → is_digit b ≡ true → is_sign b ≡ false
digit_no_sign b h = let l = (digit_is b h).least in
    rw (is_not b 45 (omega (arith, l)), is_not b 43 (omega (arith, l))) refl

digits_dark : (ds : List ℕ) → list_all is_digit ds ≡ true → list_all is_dark ds ≡ true
digits_dark [] h = refl
digits_dark (d ∷ ds) h = let p = and_parts (is_digit d) (list_all is_digit ds) h in
    and_from (is_dark d) (list_all is_dark ds) (digit_dark d p.0) (digits_dark ds p.1)

-- ---- digits

record Digits (n : ℕ) (ds : List ℕ) : Type 0 where
  all : list_all is_digit ds ≡ true
  value : digits_value ds ≡ n
  filled : is_filled ds ≡ true

one_digit : (n : ℕ) → n < 10 → Digits n ((48 + n) ∷ [])
one_digit n h = record {
  all = rw (digit_from (48 + n) (omega arith) (omega arith)) refl;
  value = omega arith;
  filled = refl;
}

still_filled : (ds : List ℕ) (x : ℕ) → is_filled (ds ++ x ∷ []) ≡ true
still_filled [] x = refl
still_filled (d ∷ ds) x = refl

more_digits : (n : ℕ) (ds : List ℕ) → 10 ≤ n → Digits (n / 10) ds
    → Digits n (ds ++ (48 + n % 10) ∷ [])
more_digits n ds h d =
    let s = div-add-mod n 10 in
    let last : n % 10 < 10 = omega arith in
    let folded = fold_push (λ (m : ℕ) (x : ℕ). 10 * m + (x - 48)) 0 ds (48 + n % 10) in
    let v = d.value in
    record {
      all = list_all-append is_digit ds ((48 + n % 10) ∷ [])
          ∙ and_from (list_all is_digit ds) (is_digit (48 + n % 10) && true) d.all
          (rw (digit_from (48 + n % 10) (omega arith) (omega (arith, last))) refl);
      value = folded ∙ (rw v (omega (arith, s)));
      filled = still_filled ds (48 + n % 10);
    }

digits_of_decimal : (n : ℕ) → n < 2 ^ 64 → Digits n (decimal n)
digits_of_decimal n h = decimal_by_steps Digits one_digit more_digits n h

pub decimal_word : (n : ℕ) → n < 2 ^ 64 → is_word (decimal n) ≡ true
decimal_word n h = let d = digits_of_decimal n h in
    and_from (is_filled (decimal n)) (list_all is_dark (decimal n)) d.filled
    (digits_dark (decimal n) d.all)

-- ---- whole numbers

filled_long : (ds : List ℕ) → is_filled ds ≡ true → 1 ≤ length ds
filled_long [] h = absurd (cc)
filled_long (d ∷ ds) h = omega arith

fits_digits : (ds : List ℕ) → list_all is_digit ds ≡ true → is_filled ds ≡ true → length ds ≤ 18
    → (nat_le 1 (length ds) && nat_le (length ds) 18 && list_all is_digit ds) ≡ true
fits_digits ds all filled short = rw (
  le-leb 1 (length ds) (filled_long ds filled),
  le-leb (length ds) 18 short,
  all,
) refl

whole_digits : (ds : List ℕ) → list_all is_digit ds ≡ true → is_filled ds ≡ true → length ds ≤ 18
    → whole ds ≡ Some (pos (digits_value ds))
unfolding whole
whole_digits [] all filled short = absurd (cc)
whole_digits (d ∷ ds) all filled short =
    let p = and_parts (is_digit d) (list_all is_digit ds) all in
    let no_minus : (d == 45) ≡ false = (or_parts (d == 45) (d == 43) (digit_no_sign d p.0)).0 in
    rw (digit_no_sign d p.0, fits_digits (d ∷ ds) all filled short, no_minus) refl

whole_minus : (ds : List ℕ) → list_all is_digit ds ≡ true → is_filled ds ≡ true → length ds ≤ 18
    → whole (45 ∷ ds) ≡ Some (pos 0 -ℤ pos (digits_value ds))
unfolding whole
whole_minus ds all filled short = rw (fits_digits ds all filled short) refl

small : (n : ℕ) → n < 10 ^ 18 → n < 2 ^ 64
small n h = omega (arith, h)

pub whole_decimal : (n : ℕ) → n < 10 ^ 18 → whole (decimal n) ≡ Some (pos n)
whole_decimal n h =
    let d = digits_of_decimal n (small n h) in
    whole_digits (decimal n) d.all d.filled (length-decimal-le 18 n (lit< tt) h (small n h))
    ∙ ap (λ m. Some (pos m)) d.value

minus : (n : ℕ) → pos 0 -ℤ pos (suc n) ≡ negsuc n
minus n = rw (le-leb 1 (suc n) (omega arith)) (ap negsuc (omega arith))

pub whole_signed : (z : ℤ) → mag z + 1 < 10 ^ 18 → whole (signed_decimal z) ≡ Some z
whole_signed (pos n) h = whole_decimal n (omega (arith, h))
whole_signed (negsuc n) h =
    let l : suc n < 10 ^ 18 = omega (arith, h) in
    let d = digits_of_decimal (suc n) (small (suc n) l) in
    whole_minus (decimal (suc n)) d.all d.filled
    (length-decimal-le 18 (suc n) (lit< tt) l (small (suc n) l))
    ∙ (ap (λ m. Some (pos 0 -ℤ pos m)) d.value ∙ ap Some (minus n))

pub signed_word : (z : ℤ) → mag z + 1 < 10 ^ 18 → is_word (signed_decimal z) ≡ true
signed_word (pos n) h = decimal_word n (omega (arith, h))
signed_word (negsuc n) h = let d = digits_of_decimal (suc n) (omega (arith, h)) in
    digits_dark (decimal (suc n)) d.all

-- ---- colours

-- the digit of half a byte
half_dark : (h : ℕ) → h < 16 → is_dark (digit_glyph false h) ≡ true
half_dark h l = elim (cases_Bool (nat_lt h 10)) [
  | inl t ↦ rw t (above_dark (48 + h) (omega arith))
  | inr t ↦ rw t (above_dark (87 + h) (omega arith))
]

high : (b : ℕ) → b < 256 → b / 16 < 16
high b h = let s = div-add-mod b 16 in omega (arith, s, h)

low : (b : ℕ) → b % 16 < 16
low b = omega arith

-- '#' and six hexadecimal digits
abbrev pub rgb_word : Rgb → List ℕ
rgb_word c = 35 ∷ hex_rgb c

pub rgb_dark : (c : Rgb) → HasBytes c → is_word (rgb_word c) ≡ true
rgb_dark c h =
    rw (
      half_dark (c.r / 16) (high c.r h.r),
      half_dark (c.r % 16) (low c.r),
      half_dark (c.g / 16) (high c.g h.g),
      half_dark (c.g % 16) (low c.g),
      half_dark (c.b / 16) (high c.b h.b),
      half_dark (c.b % 16) (low c.b),
    ) refl

pub rgb_read : (c : Rgb) → HasBytes c → colour (rgb_word c) ≡ Some c
unfolding colour
rgb_read c bytes = rgb_of_hex-hex_rgb c bytes
