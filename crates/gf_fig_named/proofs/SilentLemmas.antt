-- Comment lines behind the first line of a FIG text say nothing.
use Rattle.std.proofs.Common.{◌≡◌, ℕ, Bool, true, false, cond, ◌&&◌, List, [], ◌∷◌, ◌++◌, drop}
use Rattle.std.proofs.Common.{take, length, refl, sym, ap, ◌∙◌, inl, inr, append_assoc, nat_lt}
use Rattle.std.specs.Prelude.{flat_map, not, nat_eq, Result, Err, codes}
use Rattle.std.specs.List.{list_all, onto_first}
use Rattle.std.specs.Cmp.Lexicographic.{pointwise}
use Rattle.std.proofs.lemmas.Bool.{cases_Bool, and_parts}
use Rattle.std.proofs.lemmas.List.Elements.{filter-append}
use Rattle.gf_fig_tokens.specs.Layout.{Token, after_resolution, is_comment, is_line_feed}
use Rattle.gf_fig_tokens.specs.Layout.{is_version}
use Rattle.gf_fig_tokens.specs.Layout.{lines, object_tokens, plain, plain_lines, tokens}
use Rattle.gf_fig_tokens.specs.declared.faults.FigFault.{FigFault}
use Rattle.gf_fig_tokens.specs.declared.faults.FigFault.TheVariants as fault
use Rattle.gf_fig_read.specs.FigGrammar.{Reads}
use Rattle.gf_fig_read.specs.Objects.{Drawn}

-- ---- lines

-- no byte of the text ends a line
abbrev pub IsOneLine : List ℕ → Type 0
IsOneLine text = list_all (λ b. not (is_line_feed b)) text ≡ true

-- the text has a line feed at its end
pub record EndsLine (text : List ℕ) : Type 0 where
  pub line : List ℕ
  pub is : text ≡ line ++ 10 ∷ []

-- some lines, of which there is a first
pub record HasFirst (ls : List (List ℕ)) : Type 0 where
  pub head : List ℕ
  pub others : List (List ℕ)
  pub is : ls ≡ head ∷ others

is_not : (b : Bool) → not b ≡ true → b ≡ false
is_not true t = absurd cc
is_not false t = refl

-- a text with a line feed has a first line
pub has_first : (line rest : List ℕ) → HasFirst (lines (line ++ 10 ∷ rest))
has_first [] rest = record { head = []; others = lines rest; is = refl }
has_first (b ∷ bs) rest = elim (cases_Bool (is_line_feed b)) [
  | inl t ↦ record { head = []; others = lines (bs ++ 10 ∷ rest); is = rw t refl }
  | inr t ↦
      let f = has_first bs rest in
      record { head = b ∷ f.head; others = f.others; is = rw (t, f.is) refl }
]

onto_more : (b : ℕ) (ls ks : List (List ℕ)) → HasFirst ls
    → onto_first b (ls ++ ks) ≡ onto_first b ls ++ ks
onto_more b [] ks f = let e = f.is in absurd cc
onto_more b (l ∷ ls) ks f = refl

-- the lines behind a line feed follow those before it
pub lines_behind : (line rest : List ℕ) → lines (line ++ 10 ∷ rest)
    ≡ lines (line ++ 10 ∷ []) ++ lines rest
lines_behind [] rest = refl
lines_behind (b ∷ bs) rest = elim (cases_Bool (is_line_feed b)) [
  | inl t ↦ rw t (ap (λ ls. [] ∷ ls) (lines_behind bs rest))
  | inr t ↦ rw t (ap (onto_first b) (lines_behind bs rest)
      ∙ onto_more b (lines (bs ++ 10 ∷ [])) (lines rest) (has_first bs []))
]

-- a text without a line feed is one line
pub line_alone : (line rest : List ℕ) → IsOneLine line
    → lines (line ++ 10 ∷ rest) ≡ line ∷ lines rest
line_alone [] rest one = refl
line_alone (b ∷ bs) rest one =
    let parts = and_parts (not (is_line_feed b)) (list_all (λ c. not (is_line_feed c)) bs) one in
    rw (is_not (is_line_feed b) parts.0, line_alone bs rest parts.1) refl

-- a comment is no plain line
pub comment_alone : (line rest : List ℕ) → IsOneLine line
    → plain (lines ((35 ∷ line) ++ 10 ∷ rest)) ≡ plain (lines rest)
comment_alone line rest one = ap (λ ls. plain (onto_first 35 ls)) (line_alone line rest one)

-- what stands behind whole lines may be replaced by what has the same plain lines
plain_behind : (line x y : List ℕ) → plain (lines x) ≡ plain (lines y)
    → plain_lines (line ++ 10 ∷ x) ≡ plain_lines (line ++ 10 ∷ y)
plain_behind line x y e =
    let f = has_first line [] in
    let whole : (z : List ℕ) → plain_lines (line ++ 10 ∷ z) ≡ plain f.others ++ plain (lines z) =
    λ z. ap (λ ls. plain (drop 1 ls)) (lines_behind line z)
    ∙ (ap (λ ls. plain (drop 1 (ls ++ lines z))) f.is
    ∙ filter-append (λ l. not (is_comment l)) f.others (lines z)) in
    whole x ∙ (ap (λ ls. plain f.others ++ ls) e ∙ sym (whole y))

-- ---- the first line

-- whether a text begins with a word without a line feed is said by its first line
begins_alike : (word line x y : List ℕ) → list_all (λ b. not (is_line_feed b)) word ≡ true
    → pointwise nat_eq word (take (length word) (line ++ 10 ∷ x))
    ≡ pointwise nat_eq word (take (length word) (line ++ 10 ∷ y))
begins_alike [] line x y clean = refl
begins_alike (c ∷ cs) [] x y clean =
    let parts = and_parts (not (is_line_feed c)) (list_all (λ b. not (is_line_feed b)) cs) clean in
    let other : nat_eq c 10 ≡ false = is_not (is_line_feed c) parts.0 in
    rw other refl
begins_alike (c ∷ cs) (b ∷ bs) x y clean =
    let parts = and_parts (not (is_line_feed c)) (list_all (λ b. not (is_line_feed b)) cs) clean in
    ap (λ r. nat_eq c b && r) (begins_alike cs bs x y parts.1)

version_alike : (line x y : List ℕ) → is_version (line ++ 10 ∷ x) ≡ is_version (line ++ 10 ∷ y)
version_alike line x y = begins_alike (codes "#FIG 3.2") line x y refl

-- ---- the text

-- the tokens by version and plain lines
abbrev tokens_by : Bool → List (List ℕ) → Result (List Token) FigFault
tokens_by version ls =
    cond (not version) (Err fault.Version)
    (cond (nat_lt (length ls) 7) (Err fault.Header) (after_resolution (tokens (drop 7 ls))))

-- behind whole lines only the plain lines matter
pub tokens_alike : (line x y : List ℕ) → plain (lines x) ≡ plain (lines y)
    → object_tokens (line ++ 10 ∷ x) ≡ object_tokens (line ++ 10 ∷ y)
unfolding object_tokens
tokens_alike line x y e =
    ap (λ v. tokens_by v (plain_lines (line ++ 10 ∷ x))) (version_alike line x y)
    ∙ ap (tokens_by (is_version (line ++ 10 ∷ y))) (plain_behind line x y e)

-- texts of the same tokens read as the same drawings
pub reads_alike : (text other : List ℕ) (d : Drawn) → object_tokens text ≡ object_tokens other
    → Reads text d → Reads other d
reads_alike text other d e r = record {
  all = r.all;
  tokens = sym e ∙ r.tokens;
  objects = r.objects;
}

-- ---- pieces

-- the lines behind a piece that is whole lines follow its own
pub behind_piece : (own z : List ℕ) (ends : EndsLine own)
    → plain (lines (own ++ z)) ≡ plain (lines (ends.line ++ 10 ∷ [])) ++ plain (lines z)
behind_piece own z ends =
    let line = ends.line in
    ap (λ t. plain (lines (t ++ z))) ends.is
    ∙ (ap (λ t. plain (lines t)) (append_assoc line (10 ∷ []) z)
    ∙ (ap plain (lines_behind line z)
    ∙ filter-append (λ l. not (is_comment l)) (lines (line ++ 10 ∷ [])) (lines z)))

-- what stands behind a piece may be replaced by what has the same plain lines
pub behind_one : (own y z : List ℕ) → EndsLine own → plain (lines y) ≡ plain (lines z)
    → plain (lines (own ++ y)) ≡ plain (lines (own ++ z))
behind_one own y z ends e =
    let first = plain (lines (ends.line ++ 10 ∷ [])) in
    behind_piece own y ends ∙ (ap (λ ls. first ++ ls) e ∙ sym (behind_piece own z ends))

module _ {X : Type 0} (own : X → List ℕ) (ends : (x : X) → EndsLine (own x)) where
  pub behind_pieces : (xs : List X) (y z : List ℕ) → plain (lines y) ≡ plain (lines z)
      → plain (lines (flat_map own xs ++ y)) ≡ plain (lines (flat_map own xs ++ z))
  behind_pieces [] y z e = e
  behind_pieces (x ∷ xs) y z e =
      ap (λ t. plain (lines t)) (append_assoc (own x) (flat_map own xs) y)
      ∙ (behind_one (own x) (flat_map own xs ++ y) (flat_map own xs ++ z) (ends x)
      (behind_pieces xs y z e)
      ∙ ap (λ t. plain (lines t)) (sym (append_assoc (own x) (flat_map own xs) z)))

  module _ (says : X → List ℕ) (nothing : (x : X) (rest : List ℕ)
      → plain (lines (says x ++ rest)) ≡ plain (lines rest)) where
    -- a piece behind what is said of it
    abbrev pub told : X → List ℕ
    told x = says x ++ own x

    -- comments before each piece change no plain line
    pub told_pieces : (xs : List X) (rest : List ℕ)
        → plain (lines (flat_map told xs ++ rest)) ≡ plain (lines (flat_map own xs ++ rest))
    told_pieces [] rest = refl
    told_pieces (x ∷ xs) rest =
        ap (λ t. plain (lines t))
        (append_assoc (told x) (flat_map told xs) rest
        ∙ append_assoc (says x) (own x) (flat_map told xs ++ rest))
        ∙ (nothing x (own x ++ (flat_map told xs ++ rest))
        ∙ (behind_one (own x) (flat_map told xs ++ rest) (flat_map own xs ++ rest) (ends x)
        (told_pieces xs rest)
        ∙ ap (λ t. plain (lines t)) (sym (append_assoc (own x) (flat_map own xs) rest))))
