-- What is cut off the front of what is held.
use Rattle.std.proofs.Common.{◌≡◌, ℕ, ◌+◌, ◌<◌, ◌≤◌, ◌∷◌, ◌++◌, [], Bool, true, false, List, Option}
use Rattle.std.proofs.Common.{None, Some, ap, arith, cond, drop, get_or, inl, inr, length, nat_lt, sym}
use Rattle.std.proofs.Common.{Err, Global, IfOk, IfSome, Ok, OnOk, Result, Vec, append_assoc, take}
use Rattle.std.proofs.Common.{take-append-drop, ◌∙◌}
use Rattle.std.specs.Io.KnownBytes.{Consumes, Keeps, prepend_known}
use Rattle.std.specs.List.{position, position_or_len}
use Rattle.std.proofs.lemmas.Bool.{cases_Bool, eqb-true, le-ltb, ltb-false}
use Rattle.std.proofs.lemmas.List.{get_or-take, length-take-le, take-take, take_more}
use Rattle.std.proofs.lemmas.List.Quantifiers.{position-Some}
use Rattle.std.proofs.lemmas.List.Sums.{fails_before_first, position_or_len_is}
use Rattle.gf_streams.specs.TextLines.{is_line_end}
use Rattle.gf_serve.specs.RequestLines.{EndsRequests, IsLine}
use Rattle.gf_serve.specs.declared.inbox.TheConstants.{MOST_LINE_BYTES}
use Rattle.gf_serve.specs.declared.serve_error.ServeError.TheVariants as serve

-- of the first n bytes none passes where none does below n
none_within : (p : ℕ → Bool) (xs : List ℕ) (n : ℕ) → n ≤ length xs
    → ((k : ℕ) → k < n → p (get_or xs k 0) ≡ false) → position p (take n xs) ≡ None
none_within p xs n within fails =
    let m : length (take n xs) ≡ n = length-take-le n xs within in
    let at = position_or_len_is p (take n xs) n 0 (omega (arith, m))
    (λ k l. ap p (get_or-take n xs k 0 l) ∙ fails k l) (λ l. absurd (omega (arith, m, l))) in
    let no : nat_lt n (length (take n xs)) ≡ false = le-ltb n (length (take n xs))
    (omega (arith, m)) in
    ap (λ k. cond (nat_lt k (length (take n xs))) (Some k) None) at
    ∙ ap (λ b. cond b (Some n) None) no

-- so not before the first one
pub none_before : (p : ℕ → Bool) (xs : List ℕ) (i n : ℕ) → position p xs ≡ Some i → n ≤ i
    → position p (take n xs) ≡ None
none_before p xs i n e le =
    let f = position-Some p xs i 0 e in
    none_within p xs n (omega (arith, f.0, le)) (λ k l. f.2 k (omega (arith, l, le)))

-- where there is none, all fail
none_first : (p : ℕ → Bool) (xs : List ℕ) → position p xs ≡ None
    → length xs ≤ position_or_len p xs
none_first p xs e =
    elim (cases_Bool (nat_lt (position_or_len p xs) (length xs))) [
      | inl t ↦
          absurd (
          let x : Some (position_or_len p xs) ≡ None =
          sym (ap (λ b. cond b (Some (position_or_len p xs)) None) t) ∙ e in
          cc)
      | inr f ↦ omega (arith, ltb-false (position_or_len p xs) (length xs) f)
    ]

-- so there is none in a part
pub none_of_part : (p : ℕ → Bool) (xs : List ℕ) (n : ℕ) → position p xs ≡ None → n ≤ length xs
    → position p (take n xs) ≡ None
none_of_part p xs n e le =
    none_within p xs n le
    (λ k l. fails_before_first p xs k 0 (omega (arith, none_first p xs e, l, le)))

-- a line with its end is the line and a line feed
pub line_with_end : (xs : List ℕ) (i : ℕ) → position is_line_end xs ≡ Some i
    → take (i + 1) xs ≡ take i xs ++ 10 ∷ []
line_with_end xs i e =
    let f = position-Some is_line_end xs i 0 e in
    take_more xs i 0 f.0 ∙ ap (λ b. take i xs ++ b ∷ []) (eqb-true (get_or xs i 0) 10 f.1)

-- the line is what stands before its end
line_front : (held whole line : List ℕ) (i : ℕ) → whole ≡ take (i + 1) held → line ≡ take i whole
    → line ≡ take i held
line_front held whole line i w l = l ∙ (ap (take i) w ∙ take-take i (i + 1) held (omega arith))

-- what is cut off is a line, where it is short
pub line_is : (held whole line : List ℕ) (i : ℕ) → position is_line_end held ≡ Some i
    → whole ≡ take (i + 1) held → line ≡ take i whole → i ≤ MOST_LINE_BYTES → IsLine line
line_is held whole line i e w l short =
    let f = line_front held whole line i w l in
    let p = position-Some is_line_end held i 0 e in
    let n : length (take i held) ≡ i = length-take-le i held (omega (arith, p.0)) in
    record {
      whole = ap (position is_line_end) f ∙ none_before is_line_end held i i e (omega arith);
      short = rw (f, n) short;
    }

-- what is cut off was held before what is left
pub cut_off : (a b : Option (List ℕ)) (held front rest : List ℕ) (n : ℕ)
    → Keeps a (prepend_known held b) → front ≡ take n held → rest ≡ drop n held
    → Consumes a (prepend_known rest b) front
cut_off None b held front rest n k f r = tt
cut_off (Some xs) None held front rest n k f r = absurd k
cut_off (Some xs) (Some ys) held front rest n k f r =
    let joined : held ≡ front ++ rest = rw (f, r) (sym (take-append-drop n held)) in
    sym k ∙ (ap (λ l. l ++ ys) joined ∙ append_assoc front rest ys)

-- a line is taken with its end
pub line_taken : (a b : Option (List ℕ)) (held whole line rest : List ℕ) (i : ℕ)
    → Keeps a (prepend_known held b) → position is_line_end held ≡ Some i
    → whole ≡ take (i + 1) held → line ≡ take i whole → rest ≡ drop (i + 1) held
    → Consumes a (prepend_known rest b) (line ++ 10 ∷ [])
line_taken a b held whole line rest i k e w l r =
    let front : line ++ 10 ∷ [] ≡ take (i + 1) held =
    ap (λ x. x ++ 10 ∷ []) (line_front held whole line i w l) ∙ sym (line_with_end held i e) in
    cut_off a b held (line ++ 10 ∷ []) rest (i + 1) k front r

-- the same, where memory for it is there
pub body_taken : {E : Type 0} (a b : Option (List ℕ)) (held rest : List ℕ) (n : ℕ)
    (r : Result (Vec ℕ Global) E) → Keeps a (prepend_known held b)
    → IfOk r (λ front. front.items ≡ take n held) → OnOk r (rest ≡ drop n held)
    → IfOk r (λ body. Consumes a (prepend_known rest b) body.items)
body_taken a b held rest n (Ok front) k f d = cut_off a b held front.items rest n k f d
body_taken a b held rest n (Err e) k f d = tt

-- more bytes than a line has are held before what is left, and none of these ends one
line_too_long : (old left : Option (List ℕ)) (held : List ℕ) → Keeps old (prepend_known held left)
    → MOST_LINE_BYTES < length held
    → position is_line_end (take (MOST_LINE_BYTES + 1) held) ≡ None
    → IfSome old (λ rest. EndsRequests rest serve.NoRequest)
line_too_long None left held k long none = tt
line_too_long (Some rest) None held k long none = absurd k
line_too_long (Some rest) (Some others) held k long none = inl (record {
  front = take (MOST_LINE_BYTES + 1) held;
  behind = drop (MOST_LINE_BYTES + 1) held ++ others;
  begins = sym k
      ∙ (ap (λ l. l ++ others) (sym (take-append-drop (MOST_LINE_BYTES + 1) held))
      ∙ append_assoc (take (MOST_LINE_BYTES + 1) held) (drop (MOST_LINE_BYTES + 1) held) others);
  whole = none;
  long = length-take-le (MOST_LINE_BYTES + 1) held (omega (arith, long));
})

-- the first line ends too late
pub line_ends_late : (old left : Option (List ℕ)) (held : List ℕ) (end : ℕ)
    → Keeps old (prepend_known held left) → position is_line_end held ≡ Some end
    → MOST_LINE_BYTES < end → IfSome old (λ rest. EndsRequests rest serve.NoRequest)
line_ends_late old left held end k found late =
    let f = position-Some is_line_end held end 0 found in
    line_too_long old left held k (omega (arith, f.0, late))
    (none_before is_line_end held end (MOST_LINE_BYTES + 1) found (omega (arith, late)))

-- or the bytes that are held have no end of a line
pub line_never_ends : (old left : Option (List ℕ)) (held : List ℕ)
    → Keeps old (prepend_known held left) → position is_line_end held ≡ None
    → MOST_LINE_BYTES < length held → IfSome old (λ rest. EndsRequests rest serve.NoRequest)
line_never_ends old left held k none long =
    line_too_long old left held k long
    (none_of_part is_line_end held (MOST_LINE_BYTES + 1) none (omega (arith, long)))
