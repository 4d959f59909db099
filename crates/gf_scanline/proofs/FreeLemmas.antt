-- Free columns, found and taken word by word.
use Rattle.std.specs.Prelude.{ℕ, ◌≡◌, ◌≤◌, ◌<◌, ◌-◌, ◌+◌, ◌*◌, ◌%◌, ◌/◌, ◌^◌, min, Bool, true}
use Rattle.std.specs.Prelude.{false, ◌&&◌, not, nat_lt, List, length, slice_index_or, slice_set}
use Rattle.std.specs.Prelude.{replicate, ◌≢◌, refl}
use Rattle.std.specs.Int.{bit_at, div_ceil, trailing_zeros, w64}
use Rattle.std.proofs.Common.{arith, ap, sym, subst, inl, inr, ◌∙◌}
use Rattle.std.proofs.lemmas.Bool.{cases_Bool, cases_eq, cases_lt}
use Rattle.std.proofs.lemmas.Bool.Decides.{nat_tests}
use Rattle.std.proofs.lemmas.List.{get_or_past, get_or-set_other, length-set, length-replicate}
use Rattle.std.proofs.lemmas.List.{get_or-replicate}
use Rattle.std.proofs.lemmas.Grind.{get_or-set_at}
use Rattle.std.proofs.lemmas.Nat.Bits.{bit_at-zero, bit_at-trailing_zeros}
use Rattle.gf_scanline.specs.declared.columns.Columns.{Columns}
use Rattle.gf_scanline.specs.Columns.{is_among, is_from}
use Rattle.gf_scanline.specs.Free.{IsFirst, IsSummary, IsTaken, is_free, is_set}
use Rattle.gf_scanline.proofs.WordLemmas.{and_false, and_true, clear_is, set_is}

-- column b of word q
pub free_from : (words : List ℕ) (q b : ℕ) → b < 64
    → is_free words (64 * q + b) ≡ is_set (slice_index_or words q 0) b
unfolding is_free
free_from words q b l =
    let d : (64 * q + b) / 64 ≡ q = omega (arith, l) in
    let m : (64 * q + b) % 64 ≡ b = omega (arith, l) in
    rw (d, m) refl

-- each column in its word
pub free_at : (words : List ℕ) (k : ℕ) → is_free words k ≡ is_set (slice_index_or words (k / 64) 0)
    (k % 64)
unfolding is_free
free_at words k = refl

zero_clear : (word i : ℕ) → word ≡ 0 → is_set word i ≡ false
zero_clear word i e = clear_is word i (ap (λ x. bit_at x i) e ∙ bit_at-zero i)

pub beyond : (words : List ℕ) → length words ≡ 64 → (k : ℕ) → 4096 ≤ k → is_free words k ≡ false
beyond words n k l = free_at words k ∙ zero_clear (slice_index_or words (k / 64) 0) (k % 64)
    (get_or_past words (k / 64) 0 (omega (arith, n, l)))

-- a word with no set bit is 0
has_bit : (word i : ℕ) → 0 < word → word < 2 ^ 64 → IsFirst (is_set word) 64 0 i → i < 64
has_bit word i some fits f = elim (cases_lt i 64) [
  | inl l ↦ l
  | inr l ↦
      let t = bit_at-trailing_zeros w64 word some fits in
      let k = trailing_zeros w64 word in
      let one = t.1 in
      absurd (let e : true ≡ false = sym (set_is word k (omega (arith, one)))
      ∙ f.none k (omega arith) (let b = t.0 in omega (arith, b, l)) in absurd cc)
]

-- ---- the first free column

module _ (words : List ℕ) (a : ℕ) (within : a < 4096) where
  in_word : (k : ℕ) → a ≤ k → k < 64 * (a / 64) + 64
      → is_free words k ≡ is_set (slice_index_or words (a / 64) 0) (k - 64 * (a / 64))
  in_word k l m =
      let e : k ≡ 64 * (a / 64) + (k - 64 * (a / 64)) = omega (arith, l) in
      ap (is_free words) e ∙ free_from words (a / 64) (k - 64 * (a / 64)) (omega (arith, l, m))

  module _ (i : ℕ) (f : IsFirst (is_set (slice_index_or words (a / 64) 0)) 64 (a % 64) i) where
    pub first_here : i < 64 → IsFirst (is_free words) 4096 a (64 * (a / 64) + i)
    first_here l = record {
      bound = omega (arith, l, within);
      from = λ m. let b = f.from l in omega (arith, b);
      none = λ k m n. in_word k m (omega (arith, l, n))
          ∙ f.none (k - 64 * (a / 64)) (omega (arith, m)) (omega (arith, n, m));
      some = λ m. free_from words (a / 64) i l ∙ f.some l;
    }

    module _ (summary n : ℕ) (s : IsSummary words summary)
        (g : IsFirst (is_set summary) 64 (a / 64 + 1) n) (none : 64 ≤ i) where
      between : (k : ℕ) → a ≤ k → k < 64 * n → is_free words k ≡ false
      between k l m = elim (cases_lt k (64 * (a / 64) + 64)) [
        | inl here ↦ in_word k l here ∙ f.none (k - 64 * (a / 64)) (omega (arith, l))
            (omega (arith, here, none, l))
        | inr later ↦
            let q : k / 64 < n = omega (arith, m) in
            let clear = g.none (k / 64) (omega (arith, later)) q in
            let sum = s.bits (k / 64) (let b = g.bound in omega (arith, q, b)) in
            let empty : nat_lt 0 (slice_index_or words (k / 64) 0) ≡ false = sym sum ∙ clear in
            free_at words k ∙ zero_clear (slice_index_or words (k / 64) 0) (k % 64)
            (grind (arith, nat_tests))
      ]

      pub first_nowhere : 64 ≤ n → IsFirst (is_free words) 4096 a 4096
      first_nowhere l = record {
        bound = omega arith;
        from = λ m. absurd (omega (arith, m));
        none = λ k m o. between k m (omega (arith, l, o));
        some = λ m. absurd (omega (arith, m));
      }

      pub first_later : n < 64 → (j : ℕ) → IsFirst (is_set (slice_index_or words n 0)) 64 0 j
          → IsFirst (is_free words) 4096 a (64 * n + j)
      first_later l j h =
          let full : nat_lt 0 (slice_index_or words n 0) ≡ true = sym (s.bits n l) ∙ g.some l in
          let b : j < 64 = has_bit (slice_index_or words n 0) j (grind (arith, nat_tests))
          (s.fits n) h in
          let after = g.from l in
          record {
            bound = omega (arith, l, b);
            from = λ m. omega (arith, after);
            none = λ k m o. elim (cases_lt k (64 * n)) [
              | inl early ↦ between k m early
              | inr late ↦
                  let e : k ≡ 64 * n + (k - 64 * n) = omega (arith, late) in
                  ap (is_free words) e ∙ free_from words n (k - 64 * n) (omega (arith, o, b))
                  ∙ h.none (k - 64 * n) (omega arith) (omega (arith, o, late))
            ];
            some = λ m. free_from words n j b ∙ h.some b;
          }

-- ---- columns that are free, or not

pub from_is : (a b k : ℕ) → is_from a b k ≡ true → (a ≤ k) × (k < b)
from_is a b k e = (grind (arith, nat_tests), grind (arith, nat_tests))

pub among_is : (c : Columns) (k : ℕ) → is_among c k ≡ true → (c.from ≤ k) × (k < c.to)
among_is c k e = (grind (arith, nat_tests), grind (arith, nat_tests))

-- no column is free before the first one that is
pub none_free : (words : List ℕ) (c : Columns) (i : ℕ) → IsFirst (is_free words) 4096 c.from i
    → ((k : ℕ) → 4096 ≤ k → is_free words k ≡ false) → min c.to 4096 ≤ i → (k : ℕ)
    → (is_free words k && is_among c k) ≡ false
none_free words c i f b l k = elim (cases_Bool (is_among c k)) [
  | inl e ↦
      let w = among_is c k e in
      let covered : is_free words k ≡ false = elim (cases_lt k 4096) [
        | inl m ↦ f.none k w.0 (let u = w.1 in omega (arith, m, u, l))
        | inr m ↦ b k m
      ] in rw covered refl
  | inr e ↦ rw e (and_false (is_free words k))
]

-- the first free column of some
pub some_free : (words : List ℕ) (c : Columns) (i : ℕ) → IsFirst (is_free words) 4096 c.from i
    → i < min c.to 4096 → (is_free words i && is_among c i) ≡ true
some_free words c i f l =
    let free = f.some (omega (arith, l)) in
    let from = f.from (omega (arith, l)) in
    let e : is_among c i ≡ true = grind (arith, nat_tests) in rw (free, e) refl

-- ---- what is taken from a word

-- a word, some of whose bits are cleared, among words
module _ (words : List ℕ) (q low high word : ℕ) (n : length words ≡ 64) (l : q < 64) (m : high ≤ 64)
    (w : (i : ℕ) → i < 64 → is_set word i ≡ (is_set (slice_index_or words q 0) i && not
    (is_from low high i))) where
  pub removed : (k : ℕ) → is_free (slice_set words q word)
      k ≡ (is_free words k && not (is_from (64 * q + low) (64 * q + high) k))
  removed k = elim (cases_eq (k / 64) q) [
    | inl e ↦
        let here : slice_index_or (slice_set words q word) (k / 64) 0 ≡ word = get_or-set_at words q
        (k / 64) word 0 e (omega (arith, l, n)) in
        let old : slice_index_or words (k / 64) 0 ≡ slice_index_or words q 0 = ap
        (λ j. slice_index_or words j 0) e in
        let same : is_from (64 * q + low) (64 * q + high) k ≡ is_from low high (k % 64) = shifted k
        e in
        free_at (slice_set words q word) k
        ∙ (rw (here, free_at words k, old, same) (w (k % 64) (omega arith)))
    | inr e ↦
        let there : slice_index_or (slice_set words q word) (k / 64) 0 ≡ slice_index_or words
        (k / 64) 0 = get_or-set_other words q (k / 64) word 0 e in
        let out : is_from (64 * q + low) (64 * q + high) k ≡ false = outside k e in
        free_at (slice_set words q word) k
        ∙ (rw (there, out) (sym (and_true (is_set (slice_index_or words (k / 64) 0) (k % 64)))
        ∙ ap (λ x. x && not false) (sym (free_at words k))))
  ]
    where
      shifted : (k : ℕ) → k / 64 ≡ q → is_from (64 * q + low) (64 * q + high) k ≡ is_from low high
          (k % 64)
      shifted k e = elim (cases_Bool (is_from low high (k % 64))) [
        | inl t ↦ rw t (let h : is_from (64 * q + low) (64 * q + high) k ≡ true = grind
            (arith, nat_tests) in h)
        | inr t ↦ rw t (let h : is_from (64 * q + low) (64 * q + high) k ≡ false = grind
            (arith, nat_tests) in h)
      ]

      outside : (k : ℕ) → k / 64 ≢ q → is_from (64 * q + low) (64 * q + high) k ≡ false
      outside k e = elim (cases_Bool (is_from (64 * q + low) (64 * q + high) k)) [
        | inl t ↦ absurd (e (let w = from_is (64 * q + low) (64 * q + high) k t in
            omega (arith, w.0, w.1, m)))
        | inr t ↦ t
      ]

-- words of no bits are small
pub blank_fits : (j : ℕ) → slice_index_or (replicate {A = ℕ} 64 0) j 0 < 2 ^ 64
blank_fits j = elim (cases_lt j 64) [
  | inl l ↦ rw (get_or-replicate {A = ℕ} 64 j 0 0 l) (omega arith)
  | inr l ↦ rw (get_or_past (replicate {A = ℕ} 64 0) j 0 (let n = length-replicate {A = ℕ} 64 0 in
      omega (arith, l, n))) (omega arith)
]

-- words are small where one of them is replaced by a small one
pub fits_more : (words : List ℕ) (n word : ℕ) → n < length words → word < 2 ^ 64
    → ((j : ℕ) → slice_index_or words j 0 < 2 ^ 64) → (j : ℕ)
    → slice_index_or (slice_set words n word) j 0 < 2 ^ 64
fits_more words n word l fits h j = elim (cases_eq j n) [
  | inl e ↦ rw (get_or-set_at words n j word 0 e l) fits
  | inr e ↦ rw (get_or-set_other words n j word 0 e) (h j)
]

-- where a word keeps a bit, it had one
was_some : (old word low high : ℕ) → word < 2 ^ 64 → 0 < word
    → ((i : ℕ) → i < 64 → is_set word i ≡ (is_set old i && not (is_from low high i))) → 0 < old
was_some old word low high fits some w = elim (cases_lt 0 old) [
  | inl l ↦ l
  | inr none ↦
      let t = bit_at-trailing_zeros w64 word some fits in
      let k = trailing_zeros w64 word in
      let one = t.1 in
      let clear : is_set old k ≡ false = zero_clear old k (omega (arith, none)) in
      let kept : is_set word k ≡ false = w k t.0 ∙ (rw clear refl) in
      absurd (let e : true ≡ false = sym (set_is word k (omega (arith, one))) ∙ kept in absurd cc)
]

-- the summary, where the word keeps a bit
pub summed_still : (words : List ℕ) (summary q word low high : ℕ) → IsSummary words summary → q < 64
    → word < 2 ^ 64 → 0 < word
    → ((i : ℕ) → i < 64 → is_set word i ≡ (is_set (slice_index_or words q 0) i && not
    (is_from low high i))) → IsSummary (slice_set words q word) summary
summed_still words summary q word low high s l fits some w = record {
  count = length-set words q word ∙ s.count;
  fits = fits_more words q word (omega (arith, l, s.count)) fits s.fits;
  bits = λ i m. elim (cases_eq i q) [
    | inl e ↦
        let was : nat_lt 0 (slice_index_or words i 0) ≡ true = ap
        (λ j. nat_lt 0 (slice_index_or words j 0)) e
        ∙ (let old = was_some (slice_index_or words q 0) word low high fits some w in
        let h : nat_lt 0 (slice_index_or words q 0) ≡ true = grind (arith, nat_tests) in h) in
        let now : nat_lt 0 word ≡ true = grind (arith, nat_tests) in
        s.bits i m ∙ (rw (was, get_or-set_at words q i word 0 e (omega (arith, l, s.count)), now)
        refl)
    | inr e ↦ rw (get_or-set_other words q i word 0 e) (s.bits i m)
  ];
}

-- what stands from the first free column on to the first one that is not, in its word
module _ (words : List ℕ) (c : Columns) (i e to : ℕ) (first : IsFirst (is_free words) 4096 c.from i)
    (some : i < min c.to 4096)
    (end : IsFirst (λ k. not (is_set (slice_index_or words (i / 64) 0) k)) 64 (i % 64) e)
    (least : to ≡ min (64 * (i / 64) + e) c.to) where
  starts_free : is_set (slice_index_or words (i / 64) 0) (i % 64) ≡ true
  starts_free = sym (free_at words i) ∙ first.some (omega (arith, some))

  pub run_long : i % 64 < e
  run_long = elim (cases_lt (i % 64) e) [
    | inl l ↦ l
    | inr l ↦
        let at : e ≡ i % 64 = let f = cases_lt e 64 in elim f [
          | inl b ↦ let from = end.from b in omega (arith, from, l)
          | inr b ↦ absurd (omega (arith, b, l))
        ] in
        let clear = end.some (omega (arith, at)) in
        absurd (let z : not (is_set (slice_index_or words (i / 64) 0) (i % 64)) ≡ true = subst
        (λ k. not (is_set (slice_index_or words (i / 64) 0) k) ≡ true) at clear in
        let y : false ≡ true = rw starts_free at z in absurd cc)
  ]

  pub run_fits : (i % 64 < to - 64 * (i / 64)) × (to - 64 * (i / 64) ≤ 64)
  run_fits = let l = run_long in let b = end.bound in
      (omega (arith, l, least, some), omega (arith, b, least))

  pub run_taken : (new : List ℕ)
      → ((k : ℕ) → is_free new
      k ≡ (is_free words k && not
      (is_from (64 * (i / 64) + i % 64) (64 * (i / 64) + (to - 64 * (i / 64))) k)))
      → IsTaken c words new (record { from = i; to = to })
  run_taken new left = record {
    from = first.from (omega (arith, some));
    some = let l = run_long in omega (arith, l, least, some);
    to = omega (arith, least);
    passed = first.none;
    free = λ k a.
        let w = from_is i to k a in
        let b = end.bound in
        let q : k / 64 ≡ i / 64 = let u = w.1 in let v = w.0 in omega (arith, u, v, b, least) in
        let clear = end.none (k % 64) (let v = w.0 in omega (arith, q, v)) (let u = w.1 in
        omega (arith, q, u, least)) in
        free_at words k ∙ (ap (λ j. is_set (slice_index_or words j 0) (k % 64)) q
        ∙ not_false (is_set (slice_index_or words (i / 64) 0) (k % 64)) clear);
    left = λ k.
        let low : 64 * (i / 64) + i % 64 ≡ i = omega arith in
        let high : 64 * (i / 64) + (to - 64 * (i / 64)) ≡ to = let l = run_long in
        omega (arith, l, least, some) in
        left k ∙ ap (λ t. is_free words k && not t)
        (ap (λ x. is_from x (64 * (i / 64) + (to - 64 * (i / 64))) k) low
        ∙ ap (λ y. is_from i y k) high);
  }
    where
      not_false : (x : Bool) → not x ≡ false → x ≡ true
      not_false true h = refl
      not_false false h = sym h

-- ---- runs, one behind another

-- what two runs leave, of which one begins where the other one ends
beside : (a b u v k : ℕ) (x : Bool) → u ≡ b → a < b → u < v
    → ((x && not (is_from a b k)) && not (is_from u v k)) ≡ (x && not (is_from a v k))
beside a b u v k x e l m = elim (cases_Bool (is_from a b k)) [
  | inl s ↦ let t : is_from a v k ≡ true = grind (arith, nat_tests) in rw (s, t, and_false x) refl
  | inr s ↦ elim (cases_Bool (is_from u v k)) [
    | inl t ↦ let h : is_from a v k ≡ true = grind (arith, nat_tests) in
        rw (s, t, h) (and_false (x && true) ∙ sym (and_false x))
    | inr t ↦ let h : is_from a v k ≡ false = grind (arith, nat_tests) in
        rw (s, t, h) (and_true (x && true))
  ]
]

-- ---- the first columns

-- the first n words have the bits of the first columns
abbrev pub AreFirst : ℕ → ℕ → List ℕ → Type 0
AreFirst count n words = (j b : ℕ) → j < n → b < 64 → is_set (slice_index_or words j 0) b ≡ nat_lt
    (64 * j + b) count

-- one more word has them
pub first_more : (count n word : ℕ) (words : List ℕ) → AreFirst count n words → n < length words
    → ((b : ℕ) → b < 64 → is_set word b ≡ nat_lt b (min (count - 64 * n) 64))
    → AreFirst count (n + 1) (slice_set words n word)
first_more count n word words h l w j b m k = elim (cases_eq j n) [
  | inl e ↦
      rw (get_or-set_at words n j word 0 e l) (w b k ∙ (elim (cases_lt (64 * j + b) count) [
        | inl i ↦ let x : nat_lt b (min (count - 64 * n) 64) ≡ true = grind (arith, nat_tests) in
            let y : nat_lt (64 * j + b) count ≡ true = grind (arith, nat_tests) in x ∙ sym y
        | inr i ↦ let x : nat_lt b (min (count - 64 * n) 64) ≡ false = grind (arith, nat_tests) in
            let y : nat_lt (64 * j + b) count ≡ false = grind (arith, nat_tests) in x ∙ sym y
      ]))
  | inr e ↦ rw (get_or-set_other words n j word 0 e) (h j b (omega (arith, m, e)) k)
]

pub first_free : (count : ℕ) (words : List ℕ) → length words ≡ 64 → count ≤ 4096
    → AreFirst count 64 words → (k : ℕ) → is_free words k ≡ nat_lt k count
first_free count words n l h k = elim (cases_lt k 4096) [
  | inl m ↦
      let e : 64 * (k / 64) + k % 64 ≡ k = omega arith in
      free_at words k ∙ (h (k / 64) (k % 64) (omega (arith, m)) (omega arith)
      ∙ ap (λ i. nat_lt i count) e)
  | inr m ↦ beyond words n k m ∙ sym (let y : nat_lt k count ≡ false = grind (arith, nat_tests) in
      y)
]

pub first_summed : (count summary : ℕ) (words : List ℕ) → length words ≡ 64
    → ((i : ℕ) → slice_index_or words i 0 < 2 ^ 64) → AreFirst count 64 words
    → ((i : ℕ) → i < 64 → is_set summary i ≡ nat_lt i (div_ceil count 64)) → IsSummary words summary
first_summed count summary words n fits h w = record {
  count = n;
  fits = fits;
  bits = λ i m. elim (cases_lt (64 * i) count) [
    | inl l ↦
        let one : is_set (slice_index_or words i 0) 0 ≡ true = h i 0 m (omega arith)
        ∙ (let y : nat_lt (64 * i + 0) count ≡ true = grind (arith, nat_tests) in y) in
        let some : nat_lt 0 (slice_index_or words i 0) ≡ true =
        elim (cases_lt 0 (slice_index_or words i 0)) [
          | inl o ↦ grind (arith, nat_tests)
          | inr o ↦ absurd (let e : true ≡ false = sym one ∙ zero_clear (slice_index_or words i 0) 0
              (omega (arith, o)) in absurd cc)
        ] in
        w i m ∙ ((let y : nat_lt i (div_ceil count 64) ≡ true = grind (arith, nat_tests) in y)
        ∙ sym some)
    | inr l ↦
        let none : nat_lt 0 (slice_index_or words i 0) ≡ false =
        elim (cases_lt 0 (slice_index_or words i 0)) [
          | inl o ↦ absurd (no_bit i m l o)
          | inr o ↦ grind (arith, nat_tests)
        ] in
        w i m ∙ ((let y : nat_lt i (div_ceil count 64) ≡ false = grind (arith, nat_tests) in y)
        ∙ sym none)
  ];
}
  where
    no_bit : (i : ℕ) → i < 64 → count ≤ 64 * i → 0 < slice_index_or words i 0 → ⊥
    no_bit i m l o =
        let t = bit_at-trailing_zeros w64 (slice_index_or words i 0) o (fits i) in
        let k = trailing_zeros w64 (slice_index_or words i 0) in
        let one = t.1 in
        let clear : nat_lt (64 * i + k) count ≡ false = grind (arith, nat_tests) in
        let e : true ≡ false = sym (set_is (slice_index_or words i 0) k (omega (arith, one)))
        ∙ (h i k m t.0 ∙ clear) in absurd cc
