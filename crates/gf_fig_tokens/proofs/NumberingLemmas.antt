-- The lines on which tokens stand.
use Rattle.std.proofs.Common.{◌≡◌, ℕ, zero, suc, ◌+◌, ◌-◌, ◌<◌, ◌≤◌, Bool, true, false, cond}
use Rattle.std.proofs.Common.{List, [], ◌∷◌, ◌++◌, length, length-append, map, drop, Option, Some}
use Rattle.std.proofs.Common.{Result, Ok, Err, refl, sym, ap, ◌∙◌, arith, inl, inr}
use Rattle.std.specs.Prelude.{filter, flat_map, slice_get, not, nat_lt}
use Rattle.std.specs.List.{enumerate_from}
use Rattle.std.proofs.lemmas.Bool.{cases_Bool}
use Rattle.std.proofs.lemmas.List.{length-drop, length-map, drop-map}
use Rattle.gf_fig_tokens.specs.Layout.{Token, is_comment, is_version, lines, words, plain}
use Rattle.gf_fig_tokens.specs.Layout.{plain_lines}
use Rattle.gf_fig_tokens.specs.Layout.{tokens, after_resolution, object_tokens}
use Rattle.gf_fig_tokens.specs.TokenLines.{numbered_plain_lines, repeated_number, token_lines}
use Rattle.gf_fig_tokens.specs.declared.faults.FigFault.{FigFault}
use Rattle.gf_fig_tokens.specs.declared.faults.FigFault.TheVariants as fault

-- ---- the line of a token

in_front : (n : ℕ) (ts : List Token) (ms : List ℕ) (i : ℕ) → i < length ts
    → slice_get (map (λ token. n) ts ++ ms) i ≡ Some n
in_front n [] ms i l = absurd (omega (arith, l))
in_front n (t ∷ ts) ms zero l = refl
in_front n (t ∷ ts) ms (suc i) l = in_front n ts ms i (omega (arith, l))

behind : (n : ℕ) (ts : List Token) (ms : List ℕ) (i j : ℕ) → length ts + j ≡ i
    → slice_get (map (λ token. n) ts ++ ms) i ≡ slice_get ms j
behind n [] ms i j e = ap (λ (k : ℕ). slice_get ms k) (omega (arith, e))
behind n (t ∷ ts) ms zero j e = absurd (omega (arith, e))
behind n (t ∷ ts) ms (suc i) j e = behind n ts ms i j (omega (arith, e))

-- the token of number i stands on the first of the lines ls
pub on_first_line : (ls rest : List (ℕ × List ℕ)) (line : ℕ × List ℕ) (i count : ℕ) (all : Option ℕ)
    → ls ≡ line ∷ rest → count ≡ length (words line.1) → i < count
    → slice_get (flat_map repeated_number ls) i ≡ all → Some line.0 ≡ all
on_first_line ls rest line i count all e n l is =
    sym (in_front line.0 (words line.1) (flat_map repeated_number rest) i (omega (arith, n, l)))
    ∙ (ap (λ ks. slice_get (flat_map repeated_number ks) i) (sym e) ∙ is)

-- the token of number i stands behind the first of the lines ls
pub behind_first_line : (ls rest : List (ℕ × List ℕ)) (line : ℕ × List ℕ) (i count : ℕ)
    (all : Option ℕ) → ls ≡ line ∷ rest → count ≡ length (words line.1) → count ≤ i
    → slice_get (flat_map repeated_number ls) i ≡ all
    → slice_get (flat_map repeated_number rest) (i - count) ≡ all
behind_first_line ls rest line i count all e n l is =
    sym (behind line.0 (words line.1) (flat_map repeated_number rest) i (i - count)
    (omega (arith, n, l)))
    ∙ (ap (λ ks. slice_get (flat_map repeated_number ks) i) (sym e) ∙ is)

-- ---- texts without tokens

drop_past : {X : Type 0} (i j : ℕ) (xs : List X) → drop i xs ≡ [] → i ≤ j → drop j xs ≡ []
drop_past zero zero xs e l = e
drop_past zero (suc j) [] e l = refl
drop_past zero (suc j) (x ∷ xs) e l = absurd (cc)
drop_past (suc i) zero xs e l = absurd (omega (arith, l))
drop_past (suc i) (suc j) [] e l = refl
drop_past (suc i) (suc j) (x ∷ xs) e l = drop_past i j xs e (omega (arith, l))

-- a text without a header has no tokens behind it
pub no_tokens : (text : List ℕ) (i : ℕ) → drop i (numbered_plain_lines text) ≡ [] → i ≤ 7
    → token_lines text ≡ []
no_tokens text i e l =
    ap (λ ls. flat_map repeated_number ls) (drop_past i 7 (numbered_plain_lines text) e l)

-- ---- a line for each token

length-lines_of : (ls : List (ℕ × List ℕ))
    → length (flat_map repeated_number ls) ≡ length (tokens (map (λ line. line.1) ls))
length-lines_of [] = refl
length-lines_of (l ∷ ls) =
    let h = length-lines_of ls in
    let first = length-append (repeated_number l) (flat_map repeated_number ls) in
    let same = length-map (words l.1) (λ token. l.0) in
    let second = length-append (words l.1) (tokens (map (λ line. line.1) ls)) in
    omega (arith, h, first, same, second)

plain-unnumbered : (n : ℕ) (ls : List (List ℕ))
    → map (λ line. line.1) (filter (λ line. not (is_comment line.1)) (enumerate_from n ls))
    ≡ plain ls
plain-unnumbered n [] = refl
plain-unnumbered n (l ∷ ls) = elim (cases_Bool (is_comment l)) [
  | inl t ↦ rw t (plain-unnumbered (n + 1) ls)
  | inr t ↦ rw t (ap (λ ks. l ∷ ks) (plain-unnumbered (n + 1) ls))
]

unnumbered : (ls : List (List ℕ))
    → map (λ line. line.1) (filter (λ line. not (is_comment line.1)) (drop 1 (enumerate_from 1 ls)))
    ≡ plain (drop 1 ls)
unnumbered [] = refl
unnumbered (l ∷ ls) = plain-unnumbered (1 + 1) ls

length-token_lines : (text : List ℕ)
    → length (token_lines text) ≡ length (tokens (drop 7 (plain_lines text)))
length-token_lines text =
    length-lines_of (drop 7 (numbered_plain_lines text))
    ∙ ap (λ ls. length (tokens ls))
    (sym (drop-map (λ line. line.1) 7 (numbered_plain_lines text))
    ∙ ap (λ ls. drop 7 ls) (unnumbered (lines text)))

resolved : (right : Bool) (ts all : List Token)
    → cond {A = Result (List Token) FigFault} right (Ok ts) (Err fault.Resolution) ≡ Ok all
    → length ts ≡ length all
resolved true ts all e = ap (λ (r : Result (List Token) FigFault). length (ok_or r)) e
  where
    ok_or : Result (List Token) FigFault → List Token
    ok_or (Ok us) = us
    ok_or (Err f) = []
resolved false ts all e = absurd (cc)

behind_resolution : (ts all : List Token) → after_resolution ts ≡ Ok all
    → length ts ≡ length all + 2
behind_resolution [] all e = absurd (cc)
behind_resolution (t ∷ []) all e = absurd (cc)
behind_resolution (t ∷ u ∷ ts) all e = let h = resolved _ ts all e in omega (arith, h)

behind_header : (p q : Bool) (ts all : List Token)
    → cond {A = Result (List Token) FigFault} p (Err fault.Version)
    (cond q (Err fault.Header) (after_resolution ts)) ≡ Ok all → length ts ≡ length all + 2
behind_header true q ts all e = absurd (cc)
behind_header false true ts all e = absurd (cc)
behind_header false false ts all e = behind_resolution ts all e

-- each token of the objects has a line
pub a_line_for_each : (text : List ℕ) (all : List Token) → object_tokens text ≡ Ok all
    → length (drop 2 (token_lines text)) ≡ length all
unfolding object_tokens
a_line_for_each text all e =
    let h = behind_header (not (is_version text)) (nat_lt (length (plain_lines text)) 7)
    (tokens (drop 7 (plain_lines text))) all e in
    let l = length-token_lines text in
    let d = length-drop 2 (token_lines text) in
    omega (arith, h, l, d)
