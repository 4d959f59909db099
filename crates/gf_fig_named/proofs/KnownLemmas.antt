-- What is read of the comment on what was known is what it was written from.
use Rattle.std.proofs.Common.{◌≡◌, ◌≢◌, ◌≤◌, ◌<◌, ℕ, zero, suc, ◌+◌, ◌-◌, Bool, true, false, List}
use Rattle.std.proofs.Common.{[], ◌∷◌, ◌++◌, map, Option, Some, None, Result, Ok, Err, refl, sym}
use Rattle.std.proofs.Common.{ap, subst, ◌∙◌, inl, inr, arith}
use Rattle.std.specs.Prelude.{flat_map, codes, ◌==◌, nat_le, pos, filter_map}
use Rattle.std.specs.Prelude.{IfNone, IfOk, if◌then◌else◌}
use Rattle.std.specs.Fmt.{decimal, digits}
use Rattle.std.specs.List.{find, list_all, range_with_len}
use Rattle.std.proofs.lemmas.Bool.{and_from, cases_Bool, le-leb, ne_eqb}
use Rattle.std.proofs.lemmas.Bool.Decides.{Decides-eqb}
use Rattle.gf_ops.specs.declared.op.Clock.{Clock}
use Rattle.gf_ops.specs.declared.op.OpId.{OpId}
use Rattle.gf_ops.specs.IdText.{id_text}
use Rattle.gf_ops.specs.OperationOrder.{IsSite, entry}
use Rattle.gf_fig_tokens.specs.Layout.{lines, words}
use Rattle.gf_fig_tokens.specs.Forms.{whole}
use Rattle.gf_fig_write.proofs.PrintedLines.{is_dark, is_word, led, words_led}
use Rattle.gf_fig_write.proofs.PrintedNumbers.{decimal_word, whole_decimal}
use Rattle.gf_fig_named.specs.Comments.{known_site, knows_comment, or_nothing}
use Rattle.gf_fig_named.specs.Known.{AreCounts, TellsKnown, begins_known}
use Rattle.gf_fig_named.specs.KnownSteps.{last_or}
use Rattle.gf_fig_named.specs.Spelling.{is_site_digit, spelt_id, spelt_ids}
use Rattle.gf_fig_named.specs.Spelling.{spelt_number}

-- ---- one id

abbrev id_at : ℕ → ℕ → OpId
id_at s n = record { site = s; seq = n }

pub site_digit : (s : ℕ) → IsSite s → decimal s ≡ (48 + s) ∷ []
unfolding digits
site_digit zero h = let l = h.0 in absurd (omega (arith, l))
site_digit (suc zero) h = refl
site_digit (suc (suc zero)) h = refl
site_digit (suc (suc (suc zero))) h = refl
site_digit (suc (suc (suc (suc zero)))) h = refl
site_digit (suc (suc (suc (suc (suc zero))))) h = refl
site_digit (suc (suc (suc (suc (suc (suc zero)))))) h = refl
site_digit (suc (suc (suc (suc (suc (suc (suc zero))))))) h = refl
site_digit (suc (suc (suc (suc (suc (suc (suc (suc zero)))))))) h = refl
site_digit (suc (suc (suc (suc (suc (suc (suc (suc (suc s))))))))) h =
    let l = h.1 in absurd (omega (arith, l))

number_spelt : (n : ℕ) → 1 ≤ n → n ≤ 10000 → spelt_number 10000 (decimal n) ≡ Some n
number_spelt n l h =
    let w : whole (decimal n) ≡ Some (pos n) = whole_decimal n (omega (arith, h)) in
    rw (w, le-leb 1 n l, le-leb n 10000 h) refl

digit_spelt : (s n : ℕ) → IsSite s → 1 ≤ n → n ≤ 10000
    → spelt_id ((48 + s) ∷ 46 ∷ decimal n) ≡ Some (id_at s n)
digit_spelt s n h l k =
    let a = h.0 in
    let b = h.1 in
    let digit : is_site_digit (48 + s) ≡ true = and_from (nat_le 49 (48 + s)) (nat_le (48 + s) 56)
    (le-leb 49 (48 + s) (omega (arith, a))) (le-leb (48 + s) 56 (omega (arith, b))) in
    let back : (48 + s) - 48 ≡ s = omega arith in
    rw (digit, number_spelt n l k, back) refl

pub spelt_back : (s n : ℕ) → IsSite s → 1 ≤ n → n ≤ 10000 → spelt_id (id_text (id_at s n)) ≡ Some (id_at s n)
spelt_back s n h l k =
    subst (λ d. spelt_id ((d ++ codes ".") ++ decimal n) ≡ Some (id_at s n)) (sym (site_digit s h))
    (digit_spelt s n h l k)

pub id_word : (s n : ℕ) → IsSite s → n ≤ 10000 → is_word (id_text (id_at s n)) ≡ true
id_word s n h k =
    let a = h.0 in
    let b = h.1 in
    let seq : is_word (decimal n) ≡ true = decimal_word n (omega (arith, k)) in
    let digit : is_dark (48 + s) ≡ true = rw (
      ne_eqb (48 + s) 32 (omega (arith, a)),
      ne_eqb (48 + s) 9 (omega (arith, a)),
      ne_eqb (48 + s) 13 (omega (arith, a)),
      ne_eqb (48 + s) 10 (omega (arith, a)),
    ) refl in
    subst (λ d. is_word ((d ++ codes ".") ++ decimal n) ≡ true) (sym (site_digit s h))
    (rw digit (dark_of (decimal n) seq))
  where
    dark_of : (w : List ℕ) → is_word w ≡ true → list_all is_dark w ≡ true
    dark_of [] t = refl
    dark_of (b ∷ w) t = t

-- ---- the ids of sites

-- the ids of sites that have operations
abbrev pub ids_on : (ℕ → ℕ) → List ℕ → List OpId
ids_on f ks = flat_map (λ s. if f s == 0 then [] else id_at s (f s) ∷ []) ks

module _ (f : ℕ → ℕ) where
  led_sites : (ks : List ℕ) → flat_map (λ s. known_site s (f s)) ks ≡ led (map id_text (ids_on f ks))
  led_sites [] = refl
  led_sites (k ∷ ks) = elim (cases_Bool (f k == 0)) [
    | inl e ↦ rw e (led_sites ks)
    | inr e ↦ rw e (ap (λ rest. 32 ∷ (id_text (id_at k (f k)) ++ rest)) (led_sites ks))
  ]

  -- sites from a on have at most 10,000 operations each
  abbrev AreFew : ℕ → ℕ → Type 0
  AreFew a k = (s : ℕ) → a ≤ s → s < a + k → IsSite s × (f s ≤ 10000)

  above : (a k : ℕ) → AreFew a (suc k) → AreFew (a + 1) k
  above a k few s l m = few s (omega (arith, l)) (omega (arith, m))

  first : (a k : ℕ) → AreFew a (suc k) → IsSite a × (f a ≤ 10000)
  first a k few = few a (omega arith) (omega arith)

  some : (n : ℕ) → (n == 0) ≡ false → 1 ≤ n
  some zero e = absurd cc
  some (suc n) e = omega arith

  all_words : (k a : ℕ) → AreFew a k
      → list_all is_word (map id_text (ids_on f (range_with_len a k))) ≡ true
  all_words zero a few = refl
  all_words (suc k) a few =
      let rest = all_words k (a + 1) (above a k few) in
      elim (cases_Bool (f a == 0)) [
        | inl e ↦ rw e rest
        | inr e ↦ let h = first a k few in rw (e, id_word a (f a) h.0 h.1) rest
      ]

  all_spelt : (k a : ℕ) → AreFew a k
      → filter_map spelt_id (map id_text (ids_on f (range_with_len a k)))
      ≡ ids_on f (range_with_len a k)
  all_spelt zero a few = refl
  all_spelt (suc k) a few =
      let rest = all_spelt k (a + 1) (above a k few) in
      elim (cases_Bool (f a == 0)) [
        | inl e ↦ rw e rest
        | inr e ↦ let h = first a k few in
            rw (e, spelt_back a (f a) h.0 (some (f a) e) h.1) (ap (λ is. id_at a (f a) ∷ is) rest)
      ]

  -- no site below a is among those from a on
  absent : (k a s m : ℕ) → s < a → last_or s m (ids_on f (range_with_len a k)) ≡ m
  absent zero a s m l = refl
  absent (suc k) a s m l =
      elim (cases_Bool (f a == 0)) [
        | inl e ↦ rw e (absent k (a + 1) s m (omega (arith, l)))
        | inr e ↦
            let other : (a == s) ≡ false = ne_eqb a s (omega (arith, l)) in
            rw (e, other) (absent k (a + 1) s m (omega (arith, l)))
      ]

  pub present : (k a s : ℕ) → a ≤ s → s < a + k → last_or s 0 (ids_on f (range_with_len a k)) ≡ f s
  present zero a s l m = absurd (omega (arith, l, m))
  present (suc k) a s l m = elim (cases_Bool (a == s)) [
    | inl e ↦ here (f a == 0) refl ((Decides-eqb a s).0 e) e
    | inr e ↦
        let other : a ≢ s = λ d. let t = (Decides-eqb a s).1 d in absurd cc in
        let rest = present k (a + 1) s (omega (arith, l, other)) (omega (arith, m)) in
        elim (cases_Bool (f a == 0)) [ inl n ↦ rw n rest | inr n ↦ rw (n, e) rest ]
  ]
    where
      here : (b : Bool) → (f a == 0) ≡ b → a ≡ s → (a == s) ≡ true
          → last_or s 0 (ids_on f (range_with_len a (suc k))) ≡ f s
      here true n d e =
          let none : f a ≡ 0 = (Decides-eqb (f a) 0).0 n in
          rw n (absent k (a + 1) s 0 (omega (arith, d)) ∙ (sym none ∙ ap f d))
      here false n d e = rw (n, e) (absent k (a + 1) s (f a) (omega (arith, d)) ∙ ap f d)

-- ---- the comment

-- the word for no words
abbrev or_word : List (List ℕ) → List (List ℕ)
or_word [] = codes "nothing" ∷ []
or_word ws = ws

nothing_led : (ws : List (List ℕ)) → or_nothing (led ws) ≡ led (or_word ws)
nothing_led [] = refl
nothing_led (w ∷ ws) = refl

words_or : (ws : List (List ℕ)) → list_all is_word ws ≡ true → list_all is_word (or_word ws) ≡ true
words_or [] h = refl
words_or (w ∷ ws) h = h

spelt_or : (ws : List (List ℕ)) → filter_map spelt_id (or_word ws) ≡ filter_map spelt_id ws
spelt_or [] = refl
spelt_or (w ∷ ws) = refl

comment_words : (ws : List (List ℕ)) → list_all is_word ws ≡ true
    → words (codes "# figgroup knows" ++ led ws) ≡ codes "#" ∷ codes "figgroup" ∷ codes "knows" ∷ ws
comment_words ws h = words_led (codes "#") (codes "figgroup" ∷ codes "knows" ∷ ws) refl h

pub ids_told : (f : ℕ → ℕ) → ((s : ℕ) → IsSite s → f s ≤ 10000)
    → spelt_ids (knows_comment f) ≡ ids_on f (range_with_len 1 8)
ids_told f few =
    let on = range_with_len 1 8 in
    let ws = map id_text (ids_on f on) in
    let all : AreFew f 1 8 = λ s l m.
    let site : IsSite s = (omega (arith, l), omega (arith, m)) in (site, few s site) in
    let is : knows_comment f ≡ codes "# figgroup knows" ++ led (or_word ws) =
    ap (λ t. codes "# figgroup knows" ++ t) (ap or_nothing (led_sites f on) ∙ nothing_led ws) in
    let cut = comment_words (or_word ws) (words_or ws (all_words f 8 1 all)) in
    ap (λ t. filter_map spelt_id (words t)) is
    ∙ (ap (filter_map spelt_id) cut ∙ (spelt_or ws ∙ all_spelt f 8 1 all))

-- each site's count is read back
pub counts_told : (c : Clock) → AreCounts c → (s : ℕ) → IsSite s
    → last_or s 0 (spelt_ids (knows_comment (entry c))) ≡ entry c s
counts_told c few s h =
    let l = h.0 in
    let m = h.1 in
    ap (last_or s 0) (ids_told (entry c) few)
    ∙ present (entry c) 8 1 s l (omega (arith, m))

-- the entries of a clock that counts so many operations of each site
pub counted_entry : (f : ℕ → ℕ) (s : ℕ) → IsSite s
    → entry (record { 0 = map f (range_with_len 1 8) }) s ≡ f s
counted_entry f zero h = let l = h.0 in absurd (omega (arith, l))
counted_entry f (suc zero) h = refl
counted_entry f (suc (suc zero)) h = refl
counted_entry f (suc (suc (suc zero))) h = refl
counted_entry f (suc (suc (suc (suc zero)))) h = refl
counted_entry f (suc (suc (suc (suc (suc zero))))) h = refl
counted_entry f (suc (suc (suc (suc (suc (suc zero)))))) h = refl
counted_entry f (suc (suc (suc (suc (suc (suc (suc zero))))))) h = refl
counted_entry f (suc (suc (suc (suc (suc (suc (suc (suc zero)))))))) h = refl
counted_entry f (suc (suc (suc (suc (suc (suc (suc (suc (suc s))))))))) h =
    let l = h.1 in absurd (omega (arith, l))

-- clocks that count alike are told alike
pub same_comment : (f g : ℕ → ℕ) → ((s : ℕ) → IsSite s → f s ≡ g s)
    → knows_comment f ≡ knows_comment g
same_comment f g same =
    let at : (s : ℕ) → 1 ≤ s → s ≤ 8 → f s ≡ g s = λ s l m. same s (l, m) in
    rw (
      at 1 (omega arith) (omega arith),
      at 2 (omega arith) (omega arith),
      at 3 (omega arith) (omega arith),
      at 4 (omega arith) (omega arith),
      at 5 (omega arith) (omega arith),
      at 6 (omega arith) (omega arith),
      at 7 (omega arith) (omega arith),
      at 8 (omega arith) (omega arith),
    ) refl

-- what is counted by the ids of a line is told by the line, if it is told by any clock
pub told_or_none : (line : List ℕ) (r : Clock) → ((s : ℕ) → IsSite s
    → entry r s ≡ last_or s 0 (spelt_ids line)) → line ≢ knows_comment (entry r)
    → (c : Clock) → AreCounts c → line ≢ knows_comment (entry c)
told_or_none line r are other c few is =
    other (is ∙ same_comment (entry c) (entry r) (λ s h.
    sym (are s h ∙ (ap (λ t. last_or s 0 (spelt_ids t)) is ∙ counts_told c few s h))))

-- where the first line that begins so tells nothing, the text tells nothing
pub nothing_told : {E : Type 0} (fig line : List ℕ) (r : Result (Option Clock) E)
    → find begins_known (lines fig) ≡ Some line
    → IfOk r (λ known. IfNone known ((c : Clock) → AreCounts c → line ≢ knows_comment (entry c)))
    → IfOk r (λ known. IfNone known ((c : Clock) → AreCounts c → ¬ (TellsKnown fig c)))
nothing_told fig line (Ok (Some k)) is none = tt
nothing_told fig line (Ok None) is none = λ c few told. none c few
    (let e : Some line ≡ Some (knows_comment (entry c)) = sym is ∙ told.first in cc)
nothing_told fig line (Err e) is none = tt
