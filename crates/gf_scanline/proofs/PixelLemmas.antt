-- Bytes of columns, cut and put together.
use Rattle.std.specs.Prelude.{ℕ, zero, suc, ◌≡◌, ◌≤◌, ◌<◌, ◌+◌, ◌-◌, ◌*◌, List, ◌++◌, length, take}
use Rattle.std.specs.Prelude.{refl}
use Rattle.std.proofs.Common.{append_assoc, arith, ap, sym, ◌∙◌}
use Rattle.std.proofs.Math.Seq.{take-append_seam}
use Rattle.gf_plane.specs.declared.colour.Rgb.{Rgb}
use Rattle.gf_scanline.specs.Pixels.{pixel, pixels}
use Rattle.gf_scanline.proofs.RangeLemmas.{ranged_more}

zero_plus : (n : ℕ) → 0 + n ≡ n
zero_plus n = omega arith

-- n columns more
pub pixels_more : (f : ℕ → Rgb) (i m n : ℕ) → pixels f i (m + n) ≡ pixels f i m ++ pixels f (i + m)
    n
pixels_more f i m n = ranged_more (λ k. pixel (f k)) i m n

pub length_pixels : (f : ℕ → Rgb) (i n : ℕ) → length (pixels f i n) ≡ 3 * n
length_pixels f i zero = refl
length_pixels f i (suc n) = let e = length_pixels f (i + 1) n in omega arith

-- colours that agree there
pub pixels_same : (f g : ℕ → Rgb) (i n : ℕ) → ((k : ℕ) → i ≤ k → k < i + n → f k ≡ g k)
    → pixels f i n ≡ pixels g i n
pixels_same f g i zero h = refl
pixels_same f g i (suc n) h =
    ap (λ c. pixel c ++ pixels f (i + 1) n) (h i (omega arith) (omega arith))
    ∙ ap (λ xs. pixel (g i) ++ xs)
    (pixels_same f g (i + 1) n (λ k a b. h k (omega arith) (omega arith)))

-- one colour, wherever it begins
pub pixels_one : (c : Rgb) (i j n : ℕ) → pixels (λ _. c) i n ≡ pixels (λ _. c) j n
pixels_one c i j zero = refl
pixels_one c i j (suc n) = ap (λ xs. pixel c ++ xs) (pixels_one c (i + 1) (j + 1) n)

pub take_seam : {X : Type 0} (k : ℕ) (xs ys : List X) → length xs ≡ k → take k (xs ++ ys) ≡ xs
take_seam k xs ys e = rw e at (take-append_seam xs ys)

pub take_pixels : (f : ℕ → Rgb) (i m n : ℕ) → m ≤ n → take (3 * m) (pixels f i n) ≡ pixels f i m
take_pixels f i m n l =
    ap (λ k. take (3 * m) (pixels f i k)) (parts m n l)
    ∙ (ap (λ xs. take (3 * m) xs) (pixels_more f i m (n - m)) ∙ take_seam (3 * m) (pixels f i m)
    (pixels f (i + m) (n - m)) (length_pixels f i m))
  where
    parts : (m n : ℕ) → m ≤ n → n ≡ m + (n - m)
    parts m n l = omega arith

pub pixels_last : (f : ℕ → Rgb) (n : ℕ) → pixels f 0 (n + 1) ≡ pixels f 0 n ++ pixel (f n)
pixels_last f n = pixels_more f 0 n 1 ∙ ap (λ j. pixels f 0 n ++ pixel (f j)) (zero_plus n)

-- some columns more of a pattern
pub pattern_more : (c : Rgb) (left some : ℕ) (pattern old new all : List ℕ) → some ≤ left
    → some ≤ 64 → pattern ≡ pixels (λ _. c) 0 64 → new ≡ old ++ take (3 * some) pattern
    → old ++ pixels (λ _. c) 0 left ≡ all → new ++ pixels (λ _. c) 0 (left - some) ≡ all
pattern_more c left some pattern old new all l m p n h =
    let cut = take_pixels (λ _. c) 0 some 64 m in
    let whole : pixels (λ _. c) 0 left ≡ pixels (λ _. c) 0 some ++ pixels (λ _. c) 0 (left - some) =
    ap (pixels (λ _. c) 0) (parts some left l)
    ∙ (pixels_more (λ _. c) 0 some (left - some) ∙ ap (λ xs. pixels (λ _. c) 0 some ++ xs)
    (pixels_one c (0 + some) 0 (left - some))) in
    rw (n, p, cut, append_assoc old (pixels (λ _. c) 0 some) (pixels (λ _. c) 0 (left - some)))
    (ap (λ xs. old ++ xs) (sym whole) ∙ h)
  where
    parts : (m n : ℕ) → m ≤ n → n ≡ m + (n - m)
    parts m n l = omega arith
