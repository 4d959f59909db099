-- The comments of a named text are whole comment lines.
use Rattle.std.proofs.Common.{◌≡◌, ℕ, zero, suc, ◌+◌, ◌/◌, ◌%◌, Bool, true, false, List, [], ◌∷◌}
use Rattle.std.proofs.Common.{◌++◌, refl, sym}
use Rattle.std.proofs.Common.{ap, ◌∙◌, inl, inr, arith, append_assoc, nat_lt}
use Rattle.std.specs.Prelude.{flat_map, not, codes, ◌==◌}
use Rattle.std.specs.Fmt.{decimal, digit_glyph, digits, digits_onto}
use Rattle.std.specs.List.{enumerate_from, list_all, range_with_len}
use Rattle.std.proofs.lemmas.Bool.{and_from, cases_Bool, ne_eqb}
use Rattle.std.proofs.lemmas.List.Folds.{list_all-append}
use Rattle.gf_ops.specs.declared.op.OpId.{OpId}
use Rattle.gf_fig_tokens.specs.Layout.{is_line_feed, lines, plain}
use Rattle.gf_fig_named.specs.declared.naming.Name.{Name}
use Rattle.gf_ops.specs.IdText.{id_text}
use Rattle.gf_fig_named.specs.Comments.{known_site, knows_comment, name_lines, nth_id}
use Rattle.gf_fig_named.specs.Comments.{or_nothing, spaced_id}
use Rattle.gf_fig_named.specs.NamedText.{known_lines}
use Rattle.gf_fig_named.proofs.SilentLemmas.{IsOneLine, comment_alone}

-- ---- one line

abbrev stays : ℕ → Bool
stays b = not (is_line_feed b)

pub one_append : (x y : List ℕ) → IsOneLine x → IsOneLine y → IsOneLine (x ++ y)
one_append x y a b =
    list_all-append stays x y ∙ and_from (list_all stays x) (list_all stays y) a b

one_flat : {X : Type 0} (f : X → List ℕ) → ((x : X) → IsOneLine (f x)) → (xs : List X)
    → IsOneLine (flat_map f xs)
one_flat f one [] = refl
one_flat f one (x ∷ xs) = one_append (f x) (flat_map f xs) (one x) (one_flat f one xs)

glyph_stays : (d : ℕ) → stays (digit_glyph false d) ≡ true
glyph_stays d = elim (cases_Bool (nat_lt d 10)) [
  | inl e ↦ rw (e, ne_eqb (48 + d) 10 (omega arith)) refl
  | inr e ↦ rw (e, ne_eqb (87 + d) 10 (omega arith)) refl
]

one_digits : (k n : ℕ) (acc : List ℕ) → IsOneLine acc → IsOneLine (digits_onto k 10 false n acc)
one_digits zero n acc one = one
one_digits (suc k) n acc one =
    let d = digit_glyph false (n % 10) in
    let more : IsOneLine (d ∷ acc) =
    and_from (stays d) (list_all stays acc) (glyph_stays (n % 10)) one in
    elim (cases_Bool (n / 10 == 0)) [
      | inl e ↦ rw e more
      | inr e ↦ rw e (one_digits k (n / 10) (d ∷ acc) more)
    ]

pub one_decimal : (n : ℕ) → IsOneLine (decimal n)
unfolding digits
one_decimal n = one_digits 64 n [] refl

pub one_id : (i : OpId) → IsOneLine (id_text i)
one_id i = one_append (decimal i.site ++ codes ".") (decimal i.seq)
    (one_append (decimal i.site) (codes ".") (one_decimal i.site) refl) (one_decimal i.seq)

one_spaced : (s n : ℕ) → IsOneLine (spaced_id s n)
one_spaced s n = one_append (codes " ") (id_text (record { site = s; seq = n })) refl
    (one_id (record { site = s; seq = n }))

-- ---- what is known

one_known : (s n : ℕ) → IsOneLine (known_site s n)
one_known s n = elim (cases_Bool (n == 0)) [
  | inl e ↦ rw e refl
  | inr e ↦ rw e (one_spaced s n)
]

one_nothing : (text : List ℕ) → IsOneLine text → IsOneLine (or_nothing text)
one_nothing [] one = refl
one_nothing (b ∷ bs) one = one

pub known_one : (counts : ℕ → ℕ) → IsOneLine (knows_comment counts)
known_one counts =
    let sites = flat_map (λ s. known_site s (counts s)) (range_with_len 1 8) in
    one_append (codes "# figgroup knows") (or_nothing sites) refl
    (one_nothing sites (one_flat (λ s. known_site s (counts s))
    (λ s. one_known s (counts s)) (range_with_len 1 8)))

-- what is known says nothing to a reader of FIG
pub known_silent : (counts : ℕ → ℕ) (rest : List ℕ)
    → plain (lines (known_lines counts ++ rest)) ≡ plain (lines (codes "1200 2\n" ++ rest))
known_silent counts rest =
    let sites = flat_map (λ s. known_site s (counts s)) (range_with_len 1 8) in
    ap (λ t. plain (lines t)) (append_assoc (knows_comment counts) (codes "\n1200 2\n") rest)
    ∙ comment_alone (codes " figgroup knows" ++ or_nothing sites) (codes "1200 2\n" ++ rest)
    (known_one counts)

-- ---- names

-- the parts that follow a first one, cut elsewhere
pub cut_behind : (w x y z : List ℕ) → w ++ ((x ++ y) ++ z) ≡ (w ++ x) ++ (y ++ z)
cut_behind w x y z = ap (λ t. w ++ t) (append_assoc x y z) ∙ sym (append_assoc w x (y ++ z))

ids_silent : (n : ℕ) (ids : List OpId) (line rest : List ℕ) → IsOneLine line
    → plain (lines ((35 ∷ line) ++ (flat_map nth_id (enumerate_from n ids) ++ 10 ∷ rest)))
    ≡ plain (lines rest)
ids_silent n [] line rest one = comment_alone line rest one
ids_silent n (i ∷ ids) line rest one =
    let spaced = spaced_id i.site i.seq in
    let others = flat_map nth_id (enumerate_from (n + 1) ids) in
    let cut : (own : List ℕ) → plain (lines ((35 ∷ line) ++ ((own ++ others) ++ 10 ∷ rest)))
    ≡ plain (lines ((35 ∷ (line ++ own)) ++ (others ++ 10 ∷ rest))) =
    λ own. ap (λ t. plain (lines (35 ∷ t))) (cut_behind line own others (10 ∷ rest)) in
    let same : (own : List ℕ) → IsOneLine own
    → plain (lines ((35 ∷ line) ++ ((own ++ others) ++ 10 ∷ rest))) ≡ plain (lines rest) =
    λ own whole. cut own
    ∙ ids_silent (n + 1) ids (line ++ own) rest (one_append line own one whole) in
    let further = codes " figgroup with" ++ spaced in
    let fits : IsOneLine further = one_append (codes " figgroup with") spaced refl
    (one_spaced i.site i.seq) in
    elim (cases_Bool (n % 8 == 0)) [
      | inl t ↦ elim (cases_Bool (n == 0)) [
        | inl z ↦ rw (t, z) (same (codes " with" ++ spaced)
            (one_append (codes " with") spaced refl (one_spaced i.site i.seq)))
        | inr z ↦ rw (t, z) (ap (λ t. plain (lines ((35 ∷ line) ++ t)))
            (append_assoc (codes "\n# figgroup with" ++ spaced) others (10 ∷ rest))
            ∙ (comment_alone line ((35 ∷ further) ++ (others ++ 10 ∷ rest)) one
            ∙ ids_silent (n + 1) ids further rest fits))
      ]
      | inr t ↦ rw t (same spaced (one_spaced i.site i.seq))
    ]

-- a name says nothing to a reader of FIG
pub name_silent : (name : Name) (d : ℕ) (rest : List ℕ)
    → plain (lines (name_lines name d ++ rest)) ≡ plain (lines rest)
name_silent name d rest =
    let id = id_text name.object.0 in
    let ids = flat_map nth_id (enumerate_from 0 name.telling) in
    let line = codes " figgroup " ++ id ++ codes " at " ++ decimal d in
    let one : IsOneLine line = one_append (codes " figgroup " ++ id ++ codes " at ") (decimal d)
    (one_append (codes " figgroup " ++ id) (codes " at ")
    (one_append (codes " figgroup ") id refl (one_id name.object.0)) refl) (one_decimal d) in
    ap (λ t. plain (lines t)) (append_assoc ((35 ∷ line) ++ ids) (10 ∷ []) rest
    ∙ append_assoc (35 ∷ line) ids (10 ∷ rest))
    ∙ ids_silent 0 name.telling line rest one
