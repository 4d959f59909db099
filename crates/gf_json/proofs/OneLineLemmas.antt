-- No byte of a compact text is LF, so a written line is one line.
use Rattle.std.specs.Prelude.{All}
use Rattle.std.proofs.Common.{◌≡◌, ℕ, zero, suc, ◌+◌, ◌/◌, ◌%◌, ◌<◌, Bool, true, false, cond, ◌&&◌}
use Rattle.std.proofs.Common.{◌==◌, not, nat_lt, List, [], ◌∷◌, ◌++◌, refl, inl, inr, arith, pos}
use Rattle.std.proofs.Common.{negsuc}
use Rattle.std.specs.Fmt.{digits, digits_onto, digit_glyph, decimal}
use Rattle.std.proofs.lemmas.Bool.{and_parts, cases_lt, cases_eq}
use Rattle.std.proofs.lemmas.Bool.Decides.{eqb_tells}
use Rattle.std.proofs.lemmas.List.Elements.{All-from_recursion, All-cons}
use Rattle.gf_json.specs.declared.scripts.ScriptLine.{ScriptLine}
use Rattle.gf_json.specs.WrittenScripts.{script_data, script_text}
use Rattle.json.specs.Print.{escape_byte, escape, quoted}
use Rattle.json.proofs.Printed.Strings.{escape_byte_plain}
use Rattle.serde_json.specs.Data.{Num, unsigned, negative, float, Data, null, boolean, number}
use Rattle.serde_json.specs.Data.{string, array, object, Items, no_items, item, Members, no_members}
use Rattle.serde_json.specs.Data.{member}
use Rattle.serde_json.specs.Written.{compact_text, items_text, members_text, comma_if, number_text}

-- none of the bytes is LF
abbrev is_one_line : List ℕ → Bool
is_one_line [] = true
is_one_line (x ∷ xs) = not (x == 10) && is_one_line xs

both : (a b : Bool) → a ≡ true → b ≡ true → (a && b) ≡ true
both true true p q = refl
both true false p q = absurd cc
both false b p q = absurd cc

is_one_line-append : (xs ys : List ℕ) → is_one_line xs ≡ true → is_one_line ys ≡ true
    → is_one_line (xs ++ ys) ≡ true
is_one_line-append [] ys p q = q
is_one_line-append (x ∷ xs) ys p q =
    let r = and_parts (not (x == 10)) (is_one_line xs) p in
    both _ _ r.0 (is_one_line-append xs ys r.1 q)

all_other : (xs : List ℕ) → is_one_line xs ≡ true → All (λ b. (b == 10) ≡ false) xs
all_other [] e = All-from_recursion (λ b. (b == 10) ≡ false) [] tt
all_other (x ∷ xs) e =
    let r = and_parts (not (x == 10)) (is_one_line xs) e in
    All-cons (λ b. (b == 10) ≡ false) x xs (none (x == 10) r.0) (all_other xs r.1)
  where
    none : (b : Bool) → not b ≡ true → b ≡ false
    none true t = absurd cc
    none false t = refl

high : (x : ℕ) → 10 < x → not (x == 10) ≡ true
high x l = elim (eqb_tells x 10) [
  | inl p ↦ let e = p.1 in absurd (omega (arith, e, l))
  | inr p ↦ rw p.0 refl
]

-- ---- numbers

glyph_high : (d : ℕ) → 10 < digit_glyph false d
glyph_high d = by_answer (nat_lt d 10)
  where
    by_answer : (b : Bool) → 10 < cond b (48 + d) (87 + d)
    by_answer true = omega arith
    by_answer false = omega arith

cond_one_line : (b : Bool) (xs ys : List ℕ) → is_one_line xs ≡ true → is_one_line ys ≡ true
    → is_one_line (cond b xs ys) ≡ true
cond_one_line true xs ys p q = p
cond_one_line false xs ys p q = q

digits_one_line : (k n : ℕ) (acc : List ℕ) → is_one_line acc ≡ true
    → is_one_line (digits_onto k 10 false n acc) ≡ true
digits_one_line zero n acc e = e
digits_one_line (suc k) n acc e =
    let onto = digit_glyph false (n % 10) ∷ acc in
    let front : is_one_line onto ≡ true = both _ _ (high _ (glyph_high (n % 10))) e in
    cond_one_line (n / 10 == 0) onto (digits_onto k 10 false (n / 10) onto) front
    (digits_one_line k (n / 10) onto front)

decimal_one_line : (n : ℕ) → is_one_line (decimal n) ≡ true
unfolding digits
decimal_one_line n = digits_one_line 64 n [] refl

number_one_line : (n : Num) → is_one_line (number_text n) ≡ true
number_one_line (unsigned n) = decimal_one_line n
number_one_line (negative (pos n)) = decimal_one_line n
number_one_line (negative (negsuc n)) = decimal_one_line (suc n)
number_one_line (float x) = refl

-- ---- strings

-- the escapes of the bytes below n have no LF
abbrev escapes_below : ℕ → Bool
escapes_below zero = true
escapes_below (suc n) = is_one_line (escape_byte n) && escapes_below n

escape_below : (n : ℕ) → escapes_below n ≡ true → (x : ℕ) → x < n
    → is_one_line (escape_byte x) ≡ true
escape_below zero e x h = absurd (omega arith)
escape_below (suc n) e x h =
    let p = and_parts _ _ e in
    elim (cases_eq x n) [ inl same ↦ rw same p.0 | inr other ↦ escape_below n p.1 x (omega arith) ]

low_one_line : escapes_below 128 ≡ true
unfolding escape_byte
low_one_line = refl

byte_one_line : (x : ℕ) → is_one_line (escape_byte x) ≡ true
byte_one_line x = elim (cases_lt x 128) [
  | inl l ↦ escape_below 128 low_one_line x l
  | inr l ↦ rw (escape_byte_plain x (λ e. omega arith) (λ e. omega arith) (omega arith))
      (both _ _ (high x (omega arith)) refl)
]

escape_one_line : (s : List ℕ) → is_one_line (escape s) ≡ true
escape_one_line [] = refl
escape_one_line (x ∷ xs) =
    is_one_line-append (escape_byte x) (escape xs) (byte_one_line x) (escape_one_line xs)

quoted_one_line : (s : List ℕ) → is_one_line (quoted s) ≡ true
quoted_one_line s = is_one_line-append (escape s) (34 ∷ []) (escape_one_line s) refl

comma_one_line : (later : Bool) → is_one_line (comma_if later) ≡ true
comma_one_line true = refl
comma_one_line false = refl

-- ---- values

mutual
  value_one_line : (d : Data) → is_one_line (compact_text d) ≡ true
  value_one_line null = refl
  value_one_line (boolean true) = refl
  value_one_line (boolean false) = refl
  value_one_line (number n) = number_one_line n
  value_one_line (string s) = quoted_one_line s
  value_one_line (array ds) = items_one_line false ds
  value_one_line (object ms) = members_one_line false ms

  items_one_line : (later : Bool) (ds : Items) → is_one_line (items_text later ds) ≡ true
  items_one_line later no_items = refl
  items_one_line later (item d ds) =
      let behind = is_one_line-append (compact_text d) (items_text true ds) (value_one_line d)
      (items_one_line true ds) in
      is_one_line-append (comma_if later) (compact_text d ++ items_text true ds)
      (comma_one_line later) behind

  members_one_line : (later : Bool) (ms : Members) → is_one_line (members_text later ms) ≡ true
  members_one_line later no_members = refl
  members_one_line later (member k d ms) =
      let valued = is_one_line-append (compact_text d) (members_text true ms) (value_one_line d)
      (members_one_line true ms) in
      let keyed = is_one_line-append (quoted k) (58 ∷ (compact_text d ++ members_text true ms))
      (quoted_one_line k) valued in
      is_one_line-append (comma_if later)
      (quoted k ++ 58 ∷ (compact_text d ++ members_text true ms)) (comma_one_line later) keyed

-- no byte of a compact text is LF
pub compact_one_line : (d : Data) → All (λ b. (b == 10) ≡ false) (compact_text d)
compact_one_line d = all_other (compact_text d) (value_one_line d)

-- no byte of the line of a command is LF
pub script_one_line : (s : ScriptLine) → All (λ b. (b == 10) ≡ false) (script_text s)
script_one_line s = compact_one_line (script_data s)
