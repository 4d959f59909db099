-- The set bits of words.
use Rattle.std.specs.Prelude.{ℕ, ◌≡◌, ◌≤◌, ◌<◌, ◌-◌, ◌*◌, ◌%◌, ◌/◌, ◌^◌, Bool, true, false, ◌&&◌}
use Rattle.std.specs.Prelude.{not, nat_lt, refl, bit_and}
use Rattle.std.specs.Int.{bit_at, bit_not, trailing_zeros, w64}
use Rattle.std.specs.Int.Count.{trailing_of_zero}
use Rattle.std.proofs.Common.{arith, ap, sym, subst, inl, inr, ◌∙◌}
use Rattle.std.proofs.lemmas.Bool.{cases_lt}
use Rattle.std.proofs.lemmas.Bool.Decides.{nat_tests}
use Rattle.std.proofs.lemmas.Nat.Bits.{bit_at_and, bit_at_not, bit_at_mask_inside}
use Rattle.std.proofs.lemmas.Nat.Bits.{bit_at_mask_below, bit_at-trailing_zeros, bit_at-zero}
use Rattle.std.proofs.lemmas.Nat.Bits.{bit_at_ones, bit_at_ones_above, ones_shl, ones_shr}
use Rattle.std.proofs.lemmas.Nat.Bits.{bit_at-lt}
use Rattle.std.specs.Int.Bits.{and_lt}
use Rattle.std.proofs.Math.Pow.{ones_lt, pow_mono}
use Rattle.gf_scanline.specs.Columns.{is_from}
use Rattle.gf_scanline.specs.Free.{IsFirst, is_set}

pub set_is : (word i : ℕ) → 0 < bit_at word i → is_set word i ≡ true
unfolding is_set
set_is word i h = grind (arith, nat_tests)

pub clear_is : (word i : ℕ) → bit_at word i ≡ 0 → is_set word i ≡ false
unfolding is_set
clear_is word i h = grind (arith, nat_tests)

pub and_false : (x : Bool) → (x && false) ≡ false
and_false true = refl
and_false false = refl

pub and_true : (x : Bool) → (x && true) ≡ x
and_true true = refl
and_true false = refl

same_set : (a b word v i : ℕ) → is_from a b i ≡ false → bit_at v i ≡ bit_at word i
    → is_set v i ≡ (is_set word i && not (is_from a b i))
unfolding is_set
same_set a b word v i t e = rw (t, e) (sym (and_true (nat_lt 0 (bit_at word i))))

-- ---- masks

abbrev pub high_bits : ℕ → ℕ
high_bits a = (2 ^ 64 - 1) * 2 ^ a % 2 ^ 64

abbrev pub low_bits : ℕ → ℕ
low_bits b = (2 ^ 64 - 1) / 2 ^ (64 - b)

high_in : (a i : ℕ) → a ≤ i → i < 64 → bit_at (high_bits a) i ≡ 1
high_in a i l m = ap (λ x. bit_at x i) (ones_shl 64 a (omega (arith, l, m)))
    ∙ bit_at_mask_inside a 64 i l m

high_out : (a i : ℕ) → a ≤ 64 → i < a → bit_at (high_bits a) i ≡ 0
high_out a i b l = ap (λ x. bit_at x i) (ones_shl 64 a b) ∙ bit_at_mask_below a 64 i l

low_is : (b : ℕ) → b ≤ 64 → low_bits b ≡ 2 ^ b - 1
low_is b l = let e : 64 - (64 - b) ≡ b = omega (arith, l) in ones_shr 64 (64 - b) (omega arith)
    ∙ ap (λ j. 2 ^ j - 1) e

low_in : (b i : ℕ) → b ≤ 64 → i < b → bit_at (low_bits b) i ≡ 1
low_in b i l m = ap (λ x. bit_at x i) (low_is b l) ∙ bit_at_ones b i m

low_out : (b i : ℕ) → b ≤ 64 → b ≤ i → bit_at (low_bits b) i ≡ 0
low_out b i l m = ap (λ x. bit_at x i) (low_is b l) ∙ bit_at_ones_above b i m

-- the first bits
pub low_set : (b i : ℕ) → b ≤ 64 → is_set (low_bits b) i ≡ nat_lt i b
low_set b i l = elim (cases_lt i b) [
  | inl m ↦ set_is (low_bits b) i (let e = low_in b i l m in omega (arith, e))
      ∙ sym (let h : nat_lt i b ≡ true = grind (arith, nat_tests) in h)
  | inr m ↦ clear_is (low_bits b) i (low_out b i l m)
      ∙ sym (let h : nat_lt i b ≡ false = grind (arith, nat_tests) in h)
]

-- ---- the first set bit

-- r is a word without its bits below a
module _ (word a r : ℕ) (is : r ≡ bit_and word (high_bits a)) where
  in_rest : (k : ℕ) → a ≤ k → k < 64 → bit_at r k ≡ bit_at word k
  in_rest k l m =
      let e = ap (λ x. bit_at x k) is ∙ bit_at_and word (high_bits a) k in
      let i = high_in a k l m in
      let b = bit_at-lt word k in omega (arith, e, i, b)

  out_rest : (k : ℕ) → a ≤ 64 → k < a → bit_at r k ≡ 0
  out_rest k l m =
      let e = ap (λ x. bit_at x k) is ∙ bit_at_and word (high_bits a) k in
      let i = high_out a k l m in omega (arith, e, i)

  rest_fits : word < 2 ^ 64 → r < 2 ^ 64
  rest_fits fits = subst (λ x. x < 2 ^ 64) (sym is)
      (and_lt 64 word (high_bits a) fits (omega arith))

  pub first_of : word < 2 ^ 64 → a < 64 → IsFirst (is_set word) 64 a (trailing_zeros w64 r)
  first_of fits l = elim (cases_lt 0 r) [
    | inl some ↦
        let t = bit_at-trailing_zeros w64 r some (rest_fits fits) in
        let after : a ≤ trailing_zeros w64 r = elim (cases_lt (trailing_zeros w64 r) a) [
          | inl n ↦ absurd (let o = out_rest (trailing_zeros w64 r) (omega (arith, l)) n in
              let one = t.1 in omega (arith, o, one))
          | inr n ↦ n
        ] in
        record {
          bound = let b = t.0 in omega (arith, b);
          from = λ m. after;
          none = λ k f b. clear_is word k (let z = t.2 k b in
              let e = in_rest k f (let c = t.0 in omega (arith, b, c)) in omega (arith, e, z));
          some = λ b. set_is word (trailing_zeros w64 r) (let one = t.1 in
              let e = in_rest (trailing_zeros w64 r) after b in omega (arith, e, one));
        }
    | inr none ↦
        let zero : r ≡ 0 = omega (arith, none) in
        let all : trailing_zeros w64 r ≡ 64 = ap (trailing_zeros w64) zero ∙ trailing_of_zero 64 in
        record {
          bound = omega (arith, all);
          from = λ m. omega (arith, all, m);
          none = λ k f b. clear_is word k (let e = in_rest k f (omega (arith, all, b)) in
              let z = ap (λ x. bit_at x k) zero ∙ bit_at-zero k in omega (arith, e, z));
          some = λ b. absurd (omega (arith, all, b));
        }
  ]

pub first_set_is : (word a : ℕ) → word < 2 ^ 64 → a < 64
    → IsFirst (is_set word) 64 a (trailing_zeros w64 (bit_and word (high_bits a)))
first_set_is word a = first_of word a (bit_and word (high_bits a)) refl

-- the first clear bit
pub first_clear_is : (word a i : ℕ) → word < 2 ^ 64 → IsFirst (is_set (bit_not w64 word)) 64 a i
    → IsFirst (λ k. not (is_set word k)) 64 a i
first_clear_is word a i fits f = record {
  bound = f.bound;
  from = f.from;
  none = λ k l m. ap not (turned k (omega (arith, m, f.bound)) ∙ ap not (f.none k l m));
  some = λ l. ap not (turned i l ∙ ap not (f.some l));
}
  where
    turned : (k : ℕ) → k < 64 → is_set word k ≡ not (is_set (bit_not w64 word) k)
    turned k l = let e = bit_at_not w64 word k fits l in let b = bit_at-lt word k in
        elim (cases_lt 0 (bit_at word k)) [
          | inl one ↦ set_is word k one
              ∙ sym (ap not (clear_is (bit_not w64 word) k (omega (arith, e, one))))
          | inr zero ↦ clear_is word k (omega (arith, zero))
              ∙ sym (ap not (set_is (bit_not w64 word) k (omega (arith, e, zero))))
        ]

-- ---- a word without some bits

pub without_set : (word a b i : ℕ) → a < b → b ≤ 64 → i < 64
    → is_set (bit_and word (bit_not w64 (bit_and (high_bits a) (low_bits b))))
    i ≡ (is_set word i && not (is_from a b i))
without_set word a b i l m n =
    let fits : bit_and (high_bits a) (low_bits b) < 2 ^ 64 = and_lt 64 (high_bits a) (low_bits b)
    (omega arith) (let e = low_is b m in omega (arith, e, ones_lt b, pow_mono m)) in
    let whole = bit_at_and word (bit_not w64 (bit_and (high_bits a) (low_bits b))) i in
    let rest = bit_at_not w64 (bit_and (high_bits a) (low_bits b)) i fits n in
    let mask = bit_at_and (high_bits a) (low_bits b) i in
    let small = bit_at-lt word i in
    elim (cases_lt i a) [
      | inl below ↦
          let h = high_out a i (omega (arith, l, m)) below in
          let t : is_from a b i ≡ false = grind (arith, nat_tests) in
          same_set a b word _ i t (omega (arith, whole, rest, mask, h, small))
      | inr from ↦ elim (cases_lt i b) [
        | inl inside ↦
            let h = high_in a i from n in
            let k = low_in b i m inside in
            let t : is_from a b i ≡ true = grind (arith, nat_tests) in
            rw t (clear_is _ i (omega (arith, whole, rest, mask, h, k))
            ∙ sym (and_false (is_set word i)))
        | inr behind ↦
            let h = low_out b i m behind in
            let t : is_from a b i ≡ false = grind (arith, nat_tests) in
            same_set a b word _ i t (omega (arith, whole, rest, mask, h, small))
      ]
    ]
