-- Whole lines lead a reading as their tokens do, with what is silent since the last token above the
-- next line.
use Rattle.std.proofs.Common.{◌≡◌, ◌≤◌, ℕ, zero, suc, ◌-◌, Bool, true, false, cond, List, [], ◌∷◌}
use Rattle.std.proofs.Common.{◌++◌, ◌⊎◌, length, length-append, drop, refl, sym, ap, subst, ◌∙◌}
use Rattle.std.proofs.Common.{arith, append_assoc, inl, inr, Ok, Err, nat_lt}
use Rattle.std.specs.Prelude.{Option, None, codes, nat_eq, not, Result, ◌&&◌, ◌||◌, ◌==◌}
use Rattle.std.specs.Cmp.Lexicographic.{pointwise}
use Rattle.std.specs.List.{fold, list_all}
use Rattle.std.proofs.lemmas.Bool.{and_from, and_parts, cases_Bool, ne_eqb, or_parts}
use Rattle.std.proofs.lemmas.List.Folds.{list_all-append}
use Rattle.std.proofs.lemmas.List.Sums.{fold-append}
use Rattle.gf_ops.specs.declared.op.OpId.{OpId}
use Rattle.gf_fig_tokens.specs.Layout.{Token, after_resolution, is_comment, is_version}
use Rattle.gf_fig_tokens.specs.Layout.{object_tokens, plain, plain_lines, tokens, words}
use Rattle.gf_fig_tokens.specs.declared.faults.FigFault.{FigFault}
use Rattle.gf_fig_tokens.specs.declared.faults.FigFault.TheVariants as fault
use Rattle.gf_fig_read.proofs.GrammarLemmas.{ok_or}
use Rattle.gf_fig_named.specs.declared.above.Spot.{Spot}
use Rattle.gf_fig_named.specs.declared.figures.Place.{Place}
use Rattle.gf_fig_named.specs.declared.reading.Named.{Named}
use Rattle.gf_fig_named.specs.FigureNames.{begins, behind_lines, left_behind, line_figures}
use Rattle.gf_fig_named.specs.FigureNames.{named_figures, next}
use Rattle.gf_fig_named.specs.NamesAbove.{are_none, ids_behind, is_silent, name_above, spot_behind}
use Rattle.gf_fig_named.specs.NamesAbove.{told_above}
use Rattle.gf_fig_named.proofs.StepLemmas.{begun-append, begun_in}

abbrev pub AreSilent : List (List ℕ) → Type 0
AreSilent ls = list_all is_silent ls ≡ true

abbrev pub AreComments : List (List ℕ) → Type 0
AreComments ls = list_all is_comment ls ≡ true

-- ---- one line

silent_tokens : (l : List ℕ) (ls : List (List ℕ)) → is_silent l ≡ true
    → tokens (plain (l ∷ ls)) ≡ tokens (plain ls)
silent_tokens l ls s = of (is_comment l) (words l) refl refl s
  where
    of : (c : Bool) (ws : List Token) → is_comment l ≡ c → words l ≡ ws → (c || are_none ws) ≡ true
        → tokens (plain (l ∷ ls)) ≡ tokens (plain ls)
    of true ws c w s = rw c refl
    of false [] c w s = rw (c, w) refl
    of false (t ∷ ts) c w s = absurd cc

loud_tokens : (l : List ℕ) (ls : List (List ℕ)) → is_silent l ≡ false
    → tokens (plain (l ∷ ls)) ≡ words l ++ tokens (plain ls)
loud_tokens l ls s = rw (or_parts (is_comment l) (are_none (words l)) s).0 refl

line_count : (p : Place) (named : Option Named) (ts : List Token)
    → length (line_figures p named ts) ≡ begun_in p ts
line_count p named [] = refl
line_count p named (t ∷ ts) =
    let e = line_count (next p t) None ts in
    elim (cases_Bool (begins p t)) [
      | inl b ↦ rw b (omega (arith, e))
      | inr b ↦ rw b (omega (arith, e))
    ]

-- ---- lines

-- the names are n ones, and then those of the rest, above which silent lines stand
pub record Reaches (names : List (Option Named)) (q : Place) (n : ℕ)
    (rest : List (List ℕ)) : Type 0 where
  pub found : List (Option Named)
  pub silent : List (List ℕ)
  pub are : names ≡ found ++ named_figures q (silent ++ rest) rest
  pub all : AreSilent silent
  pub many : length found ≡ n

pub scanned : (ls silent rest : List (List ℕ)) (p : Place) → AreSilent silent
    → Reaches (named_figures p (silent ++ (ls ++ rest)) (ls ++ rest))
    (fold next p (tokens (plain ls))) (begun_in p (tokens (plain ls))) rest
scanned [] silent rest p all = record {
  found = [];
  silent = silent;
  are = refl;
  all = all;
  many = refl;
}
scanned (l ∷ ls) silent rest p all = elim (cases_Bool (is_silent l)) [
  | inl s ↦
      let more : AreSilent (silent ++ l ∷ []) =
      list_all-append is_silent silent (l ∷ [])
      ∙ and_from (list_all is_silent silent) (list_all is_silent (l ∷ [])) all (rw s refl) in
      let r = scanned ls (silent ++ l ∷ []) rest p more in
      let same = silent_tokens l ls s in
      subst (λ ts. Reaches (named_figures p (silent ++ (l ∷ (ls ++ rest))) (l ∷ (ls ++ rest)))
      (fold next p ts) (begun_in p ts) rest) (sym same)
      (record {
        found = r.found;
        silent = r.silent;
        are = past_silent s
            ∙ (ap (λ above. named_figures p above (ls ++ rest))
            (sym (append_assoc silent (l ∷ []) (ls ++ rest))) ∙ r.are);
        all = r.all;
        many = r.many;
      })
  | inr s ↦
      let q = fold next p (words l) in
      let r = scanned ls [] rest q refl in
      let named = name_above (silent ++ (l ∷ (ls ++ rest))) in
      let here = line_figures p named (words l) in
      let ts = tokens (plain ls) in
      let long = length-append here r.found in
      let many = r.many in
      let begun = line_count p named (words l) in
      let both = begun-append p (words l) ts in
      subst (λ us. Reaches (named_figures p (silent ++ (l ∷ (ls ++ rest))) (l ∷ (ls ++ rest)))
      (fold next p us) (begun_in p us) rest) (sym (loud_tokens l ls s))
      (record {
        found = here ++ r.found;
        silent = r.silent;
        are = past_loud s
            ∙ (ap (λ names. here ++ names) r.are
            ∙ (sym (append_assoc here r.found
            (named_figures (fold next q ts) (r.silent ++ rest) rest))
            ∙ ap (λ place. (here ++ r.found) ++ named_figures place (r.silent ++ rest) rest)
            (sym (fold-append next p (words l) ts))));
        all = r.all;
        many = omega (arith, long, many, begun, both);
      })
]
  where
    past_silent : is_silent l ≡ true
        → named_figures p (silent ++ (l ∷ (ls ++ rest))) (l ∷ (ls ++ rest))
        ≡ named_figures p (silent ++ (l ∷ (ls ++ rest))) (ls ++ rest)
    past_silent s = rw s refl

    past_loud : is_silent l ≡ false
        → named_figures p (silent ++ (l ∷ (ls ++ rest))) (l ∷ (ls ++ rest))
        ≡ line_figures p (name_above (silent ++ (l ∷ (ls ++ rest)))) (words l)
        ++ named_figures (fold next p (words l)) (ls ++ rest) (ls ++ rest)
    past_loud s = rw s refl

pub skipped : (p : Place) (above cs ls : List (List ℕ)) → AreComments cs
    → named_figures p above (cs ++ ls) ≡ named_figures p above ls
skipped p above [] ls all = refl
skipped p above (c ∷ cs) ls all =
    let both = and_parts (is_comment c) (list_all is_comment cs) all in
    rw both.0 (skipped p above cs ls both.1)

pub no_plain : (cs ls : List (List ℕ)) → AreComments cs → plain (cs ++ ls) ≡ plain ls
no_plain [] ls all = refl
no_plain (c ∷ cs) ls all =
    let both = and_parts (is_comment c) (list_all is_comment cs) all in
    rw both.0 (no_plain cs ls both.1)

-- what silent lines tell goes on from something
pub told_on : (spot : Option Spot) (ids : List OpId) (silent rest : List (List ℕ)) → AreSilent silent
    → (s : Option Spot) × (is : List OpId)
    × (told_above spot ids (silent ++ rest) ≡ told_above s is rest)
told_on spot ids [] rest all = (spot, ids, refl)
told_on spot ids (l ∷ ls) rest all =
    let both = and_parts (is_silent l) (list_all is_silent ls) all in
    let r = told_on (spot_behind spot l) (ids_behind ids l) ls rest both.1 in
    (r.0, r.1, one both.0 ∙ r.2)
  where
    one : is_silent l ≡ true → told_above spot ids (l ∷ (ls ++ rest))
        ≡ told_above (spot_behind spot l) (ids_behind ids l) (ls ++ rest)
    one s = rw s refl

-- ---- the header

pub behind_none : (ls : List (List ℕ)) → behind_lines 0 ls ≡ ls
behind_none [] = refl
behind_none (l ∷ ls) = refl

pub plain_behind : (n : ℕ) (ls : List (List ℕ)) → plain (behind_lines n ls) ≡ drop n (plain ls)
plain_behind zero ls = ap plain (behind_none ls)
plain_behind (suc n) [] = refl
plain_behind (suc n) (l ∷ ls) =
    let back : suc n - 1 ≡ n = omega arith in
    let some : (suc n == 0) ≡ false = ne_eqb (suc n) 0 (omega arith) in
    elim (cases_Bool (is_comment l)) [
      | inl c ↦ rw (some, c) (plain_behind (suc n) ls)
      | inr c ↦ rw (some, c, back) (plain_behind n ls)
    ]

-- lines behind so many have no more tokens
behind_fewer : (n : ℕ) (ls : List (List ℕ))
    → length (tokens (plain (behind_lines n ls))) ≤ length (tokens (plain ls))
behind_fewer n [] = omega arith
behind_fewer n (l ∷ ls) = elim (cases_Bool (n == 0)) [
  | inl z ↦ rw z (omega arith)
  | inr z ↦
      let r = behind_fewer (left_behind n l) ls in
      let more = one_line (is_comment l) refl in
      rw z (omega (arith, r, more))
]
  where
    one_line : (c : Bool) → is_comment l ≡ c
        → length (tokens (plain ls)) ≤ length (tokens (plain (l ∷ ls)))
    one_line true c = rw c (omega arith)
    one_line false c = rw c (let e = length-append (words l) (tokens (plain ls)) in omega (arith, e))

-- so many lines end before the rest, or what is behind them has no more tokens than the rest
pub ends_before : (n : ℕ) (ls rest : List (List ℕ))
    → (behind_lines n (ls ++ rest) ≡ behind_lines n ls ++ rest)
    ⊎ (length (tokens (plain (behind_lines n (ls ++ rest)))) ≤ length (tokens (plain rest)))
ends_before n [] rest = inr (behind_fewer n rest)
ends_before n (l ∷ ls) rest = elim (cases_Bool (n == 0)) [
  | inl z ↦ inl (rw z refl)
  | inr z ↦ rw z (ends_before (left_behind n l) ls rest)
]

-- the tokens of the text are two of the resolution, and then those of objects
pub record Resolved (ts all : List Token) : Type 0 where
  pub first : Token
  pub second : Token
  pub is : ts ≡ first ∷ second ∷ all

resolved : (ts all : List Token) → after_resolution ts ≡ Ok all → Resolved ts all
resolved [] all e = absurd cc
resolved (t ∷ []) all e = absurd cc
resolved (t ∷ u ∷ ts) all e = record {
  first = t;
  second = u;
  is = ap (λ us. t ∷ u ∷ us)
      (of (pointwise nat_eq t (codes "1200") && pointwise nat_eq u (codes "2")) e);
}
  where
    of : (b : Bool) → cond {A = Result (List Token) FigFault} b (Ok ts) (Err fault.Resolution) ≡ Ok all
        → ts ≡ all
    of true e = ap (ok_or ts) e
    of false e = absurd cc

pub header_read : (fig : List ℕ) (all : List Token) → object_tokens fig ≡ Ok all
    → Resolved (tokens (drop 7 (plain_lines fig))) all
unfolding object_tokens
header_read fig all e = of (not (is_version fig)) (nat_lt (length (plain_lines fig)) 7) e
  where
    of : (v few : Bool) → cond v (Err fault.Version)
        (cond few (Err fault.Header) (after_resolution (tokens (drop 7 (plain_lines fig))))) ≡ Ok all
        → Resolved (tokens (drop 7 (plain_lines fig))) all
    of true few e = absurd cc
    of false true e = absurd cc
    of false false e = resolved (tokens (drop 7 (plain_lines fig))) all e
