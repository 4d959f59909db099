-- Lines and tokens, cut off one by one.
use Rattle.std.proofs.Common.{◌≡◌, ◌≢◌, ◌≤◌, ℕ, zero, suc, add-one, ◌+◌, ◌<◌, Bool, true, false}
use Rattle.std.proofs.Common.{List, [], ◌∷◌, length, length-append, take, drop, Some, None, refl}
use Rattle.std.proofs.Common.{sym, ap, ◌∙◌, cond, ltb, arith, inl, inr}
use Rattle.std.specs.Prelude.{not, filter}
use Rattle.std.proofs.lemmas.Bool.{cases_Bool, ltb-false}
use Rattle.std.proofs.lemmas.List.{nil_from_length, length-drop}
use Rattle.std.proofs.lemmas.List.Sums.{prefix_len-le-length}
use Rattle.std.proofs.lemmas.Iterator.Adapters.{position_from-zero}
use Rattle.std.specs.List.{slice_split, onto_first, position_from, position_or_len}
use Rattle.gf_fig_tokens.specs.Layout.{is_line_feed, is_space, is_filled, is_comment, lines, plain}
use Rattle.gf_fig_tokens.specs.Layout.{words, tokens}
use Rattle.gf_fig_tokens.specs.Stepping.{after_blanks}

-- ---- places

some_is : (b : Bool) (n k : ℕ) → cond b (Some n) None ≡ Some k → n ≡ k
some_is true n k e = cc
some_is false n k e = absurd (cc)

none_is : (b : Bool) (n : ℕ) → cond b (Some n) None ≡ None → b ≡ false
none_is true n e = absurd (cc)
none_is false n e = refl

pub found_at : (p : ℕ → Bool) (bs : List ℕ) (k : ℕ) → position_from p 0 bs ≡ Some k
    → (k ≡ position_or_len p bs) × (k ≤ length bs)
found_at p bs k e =
    let n : position_or_len p bs ≡ k = some_is (ltb (position_or_len p bs) (length bs))
    (position_or_len p bs) k (position_from-zero p bs ∙ e) in
    let le : position_or_len p bs ≤ length bs = prefix_len-le-length (λ b. not (p b)) bs in
    (sym n, omega (arith, n, le))

pub found_nowhere : (p : ℕ → Bool) (bs : List ℕ) → position_from p 0 bs ≡ None
    → length bs ≡ position_or_len p bs
found_nowhere p bs e =
    let out = ltb-false (position_or_len p bs) (length bs)
    (none_is (ltb (position_or_len p bs) (length bs)) (position_or_len p bs)
    (position_from-zero p bs ∙ e)) in
    let le : position_or_len p bs ≤ length bs = prefix_len-le-length (λ b. not (p b)) bs in
    omega (arith, out, le)

-- ---- lines

pub shorter : (text : List ℕ) (k : ℕ) → text ≢ [] → length (drop 1 (drop k text)) < length text
shorter [] k n = absurd (n refl)
shorter (b ∷ bs) k n = let e = length-drop 1 (drop k (b ∷ bs)) in let f = length-drop k (b ∷ bs) in
    omega (arith, e, f)

one_more : (n : ℕ) → 1 + n ≡ suc n
one_more n = omega arith

pub lines_cut : (text : List ℕ) → text ≢ [] → lines text ≡ take (position_or_len is_line_feed text)
    text ∷ lines (drop 1 (drop (position_or_len is_line_feed text) text))
lines_cut [] n = absurd (n refl)
lines_cut (b ∷ []) n = elim (cases_Bool (is_line_feed b)) [
  | inl t ↦ rw t refl
  | inr t ↦ rw t refl
]
lines_cut (b ∷ c ∷ bs) n = elim (cases_Bool (is_line_feed b)) [
  | inl t ↦ rw t refl
  | inr t ↦ rw (t, one_more) (ap (onto_first b) (lines_cut (c ∷ bs) (λ e. cc)))
]

-- ---- tokens of a line

-- the first part of a line, and the tokens behind it
record Parts (line : List ℕ) : Type 0 where
  others : List (List ℕ)
  split : slice_split is_space line ≡ take (position_or_len is_space line) line ∷ others
  behind : filter is_filled others ≡ words (drop (position_or_len is_space line) line)

parts : (line : List ℕ) → Parts line
parts [] = record { others = []; split = refl; behind = refl }
parts (b ∷ bs) = elim (cases_Bool (is_space b)) [
  | inl t ↦ record { others = slice_split is_space bs; split = rw t refl; behind = rw (t, t) refl }
  | inr t ↦ let p = parts bs in record {
    others = p.others;
    split = rw (t, one_more) (ap (onto_first b) p.split);
    behind = rw (t, one_more) p.behind;
  }
]

first_word : (b : ℕ) (bs : List ℕ) → is_space b ≡ false
    → words (b ∷ bs) ≡ take (position_or_len is_space (b ∷ bs)) (b ∷ bs) ∷ words
    (drop (position_or_len is_space (b ∷ bs)) (b ∷ bs))
first_word b bs t = let p = parts bs in rw (t, one_more, p.split, p.behind) refl

blank_first : (b : ℕ) (bs : List ℕ) → is_space b ≡ true → words (b ∷ bs) ≡ words bs
blank_first b bs t = rw t refl

pub words_cut : (line : List ℕ) → after_blanks line ≢ []
    → words line ≡ take (position_or_len is_space (after_blanks line)) (after_blanks line) ∷ words
    (drop (position_or_len is_space (after_blanks line)) (after_blanks line))
words_cut [] n = absurd (n refl)
words_cut (b ∷ bs) n = elim (cases_Bool (is_space b)) [
  | inl t ↦ let after : after_blanks (b ∷ bs) ≡ after_blanks bs = rw (t, one_more) refl in
      rw after (blank_first b bs t ∙ words_cut bs (λ e. n (after ∙ e)))
  | inr t ↦ let after : after_blanks (b ∷ bs) ≡ b ∷ bs = rw t refl in rw after (first_word b bs t)
]

done : (line : List ℕ) → after_blanks line ≡ [] → words line ≡ []
done [] e = refl
done (b ∷ bs) e = elim (cases_Bool (is_space b)) [
  | inl t ↦ let after : after_blanks (b ∷ bs) ≡ after_blanks bs = rw (t, one_more) refl in
      blank_first b bs t ∙ done bs (sym after ∙ e)
  | inr t ↦ let after : after_blanks (b ∷ bs) ≡ b ∷ bs = rw t refl in
      let none : b ∷ bs ≡ [] = sym after ∙ e in absurd (cc)
]

pub words_done : (line : List ℕ) → length (after_blanks line) ≡ 0 → words line ≡ []
words_done line e = done line (nil_from_length (after_blanks line) e)

-- ---- lines that are left

tail_is : {X : Type 0} (i : ℕ) (xs : List X) (y : X) (ys : List X) → drop i xs ≡ y ∷ ys
    → drop (suc i) xs ≡ ys
tail_is zero [] y ys e = absurd (cc)
tail_is zero (x ∷ xs) y ys e = ap (λ zs. drop 1 zs) e
tail_is (suc i) [] y ys e = absurd (cc)
tail_is (suc i) (x ∷ xs) y ys e = tail_is i xs y ys e

pub drop_more : {X : Type 0} (i : ℕ) (xs : List X) (y : X) (ys : List X) → drop i xs ≡ y ∷ ys
    → (drop (i + 1) xs ≡ ys) × (i + 1 ≤ length xs)
drop_more i xs y ys e =
    let n : length (drop i xs) ≡ suc (length ys) = ap (λ zs. length zs) e in
    let m = length-drop i xs in
    (rw add-one (tail_is i xs y ys e), omega (arith, n, m))

pub drop_none : {X : Type 0} (i : ℕ) (xs : List X) → drop i xs ≡ [] → length xs ≤ i
drop_none i xs e =
    let n : length (drop i xs) ≡ 0 = ap (λ zs. length zs) e in
    let m = length-drop i xs in
    omega (arith, n, m)

-- ---- how many tokens

-- the bytes of all lists
abbrev bytes : List (List ℕ) → ℕ
bytes [] = 0
bytes (l ∷ ls) = length l + bytes ls

bytes-onto_first : (b : ℕ) (ls : List (List ℕ)) → bytes (onto_first b ls) ≡ suc (bytes ls)
bytes-onto_first b [] = refl
bytes-onto_first b (l ∷ ls) = omega arith

bytes-lines : (text : List ℕ) → bytes (lines text) ≤ length text
bytes-lines [] = omega arith
bytes-lines (b ∷ bs) = elim (cases_Bool (is_line_feed b)) [
  | inl t ↦ rw t (let h = bytes-lines bs in omega (arith, h))
  | inr t ↦ rw (t, bytes-onto_first) (let h = bytes-lines bs in omega (arith, h))
]

bytes-filter : (p : List ℕ → Bool) (ls : List (List ℕ)) → bytes (filter p ls) ≤ bytes ls
bytes-filter p [] = omega arith
bytes-filter p (l ∷ ls) = elim (cases_Bool (p l)) [
  | inl t ↦ rw t (let h = bytes-filter p ls in omega (arith, h))
  | inr t ↦ rw t (let h = bytes-filter p ls in omega (arith, h))
]

-- a part that is not empty has a byte
filled_have : (ls : List (List ℕ)) → length (filter is_filled ls) ≤ bytes ls
filled_have [] = omega arith
filled_have ([] ∷ ls) = let h = filled_have ls in omega (arith, h)
filled_have ((b ∷ l) ∷ ls) = let h = filled_have ls in omega (arith, h)

bytes-split : (line : List ℕ) → bytes (slice_split is_space line) ≤ length line
bytes-split [] = omega arith
bytes-split (b ∷ bs) = elim (cases_Bool (is_space b)) [
  | inl t ↦ rw t (let h = bytes-split bs in omega (arith, h))
  | inr t ↦ rw (t, bytes-onto_first) (let h = bytes-split bs in omega (arith, h))
]

pub few_words : (line : List ℕ) → length (words line) ≤ length line
few_words line = let h = filled_have (slice_split is_space line) in let m = bytes-split line in
    omega (arith, h, m)

few_in : (ls : List (List ℕ)) → length (tokens ls) ≤ bytes ls
few_in [] = omega arith
few_in (l ∷ ls) =
    let h = few_in ls in
    let w = few_words l in
    let a = length-append (words l) (tokens ls) in
    omega (arith, h, w, a)

-- no more tokens than bytes
pub few_tokens : (text : List ℕ) → length (tokens (plain (lines text))) ≤ length text
few_tokens text =
    let a = few_in (plain (lines text)) in
    let b = bytes-filter (λ line. not (is_comment line)) (lines text) in
    let c = bytes-lines text in
    omega (arith, a, b, c)
