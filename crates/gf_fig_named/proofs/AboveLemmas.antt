-- The lines of a name tell it.
--
-- A line that names a figure, or goes on with a name, tells more by each word behind it: it grows.
-- The lines of a name tell its ids one after another.
use Rattle.std.proofs.Common.{◌≡◌, ◌≤◌, ℕ, ◌+◌, ◌%◌, true, false, List, [], ◌∷◌, ◌++◌, refl}
use Rattle.std.proofs.Common.{sym, ap, subst, ◌∙◌, inl, inr, arith, append_assoc, append-nil}
use Rattle.std.specs.Prelude.{All, Option, Some, codes, filter_map, flat_map, ◌==◌}
use Rattle.std.specs.Prelude.{pos}
use Rattle.std.specs.Fmt.{decimal}
use Rattle.std.specs.List.{enumerate_from, list_all}
use Rattle.std.proofs.lemmas.Bool.{and_from, cases_Bool, le-leb, ne_eqb}
use Rattle.std.proofs.lemmas.List.Elements.{All-head, All-tail, filter_map-append}
use Rattle.std.proofs.lemmas.List.Folds.{list_all-append}
use Rattle.gf_ops.specs.declared.op.OpId.{OpId}
use Rattle.gf_ops.specs.IdText.{id_text}
use Rattle.gf_ops.specs.OperationOrder.{IsSite}
use Rattle.gf_fig_tokens.specs.Forms.{whole}
use Rattle.gf_fig_tokens.specs.Layout.{is_comment, lines, words}
use Rattle.gf_fig_write.proofs.PrintedLines.{is_word, led, led_in_line, words_led}
use Rattle.gf_fig_write.proofs.PrintedNumbers.{decimal_word, whole_decimal}
use Rattle.gf_fig_named.specs.declared.above.Spot.{Spot}
use Rattle.gf_fig_named.specs.declared.naming.Name.{Name}
use Rattle.gf_fig_named.specs.Comments.{name_lines, nth_id, spaced_id}
use Rattle.gf_fig_named.specs.NamesAbove.{begins_further, ids_behind, spelt_depth}
use Rattle.gf_fig_named.specs.NamesAbove.{spot_behind, told_above}
use Rattle.gf_fig_named.specs.Spelling.{spelt_id}
use Rattle.gf_fig_named.proofs.CommentLemmas.{cut_behind, one_append, one_decimal, one_id}
use Rattle.gf_fig_named.proofs.KnownLemmas.{id_word, site_digit, spelt_back}
use Rattle.gf_fig_named.proofs.SilentLemmas.{IsOneLine, line_alone}

-- ---- ids

-- the id is one of an operation
abbrev pub IsSpelt : OpId → Type 0
IsSpelt i = IsSite i.site × (1 ≤ i.seq) × (i.seq ≤ 10000)

spelt : (i : OpId) → IsSpelt i → spelt_id (id_text i) ≡ Some i
spelt i s = spelt_back i.site i.seq s.0 s.1 s.2

word : (i : OpId) → IsSpelt i → is_word (id_text i) ≡ true
word i s = id_word i.site i.seq s.0 s.2

-- ---- words behind a line

abbrev AreWords : List (List ℕ) → Type 0
AreWords ws = list_all is_word ws ≡ true

led-append : (vs ws : List (List ℕ)) → led vs ++ led ws ≡ led (vs ++ ws)
led-append [] ws = refl
led-append (v ∷ vs) ws = ap (λ (t : List ℕ). 32 ∷ t)
    (append_assoc v (led vs) (led ws) ∙ ap (λ t. v ++ t) (led-append vs ws))

led_behind : (line : List ℕ) (vs ws : List (List ℕ))
    → (line ++ led vs) ++ led ws ≡ line ++ led (vs ++ ws)
led_behind line vs ws = append_assoc line (led vs) (led ws) ∙ ap (λ t. line ++ t) (led-append vs ws)

words_append : (vs ws : List (List ℕ)) → AreWords vs → AreWords ws → AreWords (vs ++ ws)
words_append vs ws a b =
    list_all-append is_word vs ws ∙ and_from (list_all is_word vs) (list_all is_word ws) a b

-- with the words ws behind it, the line turns what was told into this, with the ids that they spell
record Grows (line : List ℕ) (before : Option Spot) (old : List OpId) (spot : Option Spot)
    (ids : List OpId) : Type 0 where
  comment : (ws : List (List ℕ)) → is_comment (line ++ led ws) ≡ true
  one : IsOneLine line
  tells : (ws : List (List ℕ)) → AreWords ws → spot_behind before (line ++ led ws) ≡ spot
  adds : (ws : List (List ℕ)) → AreWords ws
      → ids_behind old (line ++ led ws) ≡ ids ++ filter_map spelt_id ws

module _ (line : List ℕ) (before : Option Spot) (old : List OpId) (spot : Option Spot)
    (ids : List OpId) (g : Grows line before old spot ids) where
  grows_more : (vs : List (List ℕ)) (new : List OpId) → AreWords vs
      → filter_map spelt_id vs ≡ new → Grows (line ++ led vs) before old spot (ids ++ new)
  grows_more vs new all spells = record {
    comment = λ ws. ap is_comment (led_behind line vs ws) ∙ g.comment (vs ++ ws);
    one = one_append line (led vs) g.one (led_in_line vs all);
    tells = λ ws a. ap (spot_behind before) (led_behind line vs ws)
        ∙ g.tells (vs ++ ws) (words_append vs ws all a);
    adds = λ ws a. ap (ids_behind old) (led_behind line vs ws)
        ∙ (g.adds (vs ++ ws) (words_append vs ws all a)
        ∙ (ap (λ t. ids ++ t) (filter_map-append spelt_id vs ws
        ∙ ap (λ t. t ++ filter_map spelt_id ws) spells)
        ∙ sym (append_assoc ids new (filter_map spelt_id ws))));
  }

  -- one id more
  grows_id : (i : OpId) → IsSpelt i
      → Grows (line ++ spaced_id i.site i.seq) before old spot (ids ++ i ∷ [])
  grows_id i s =
      subst (λ t. Grows (line ++ 32 ∷ t) before old spot (ids ++ i ∷ [])) (append-nil (id_text i))
      (grows_more (id_text i ∷ []) (i ∷ []) (rw (word i s) refl) (rw (spelt i s) refl))

  -- the word `with` and one id more
  grows_with : (i : OpId) → IsSpelt i
      → Grows (line ++ (codes " with" ++ spaced_id i.site i.seq)) before old spot (ids ++ i ∷ [])
  grows_with i s =
      subst (λ t. Grows (line ++ (codes " with" ++ 32 ∷ t)) before old spot (ids ++ i ∷ []))
      (append-nil (id_text i))
      (grows_more (codes "with" ∷ id_text i ∷ []) (i ∷ []) (rw (word i s) refl)
      (rw (spelt i s) refl))

-- a line that goes on with a name, with its first id
further_grows : (spot : Option Spot) (ids : List OpId) (i : OpId) → IsSpelt i
    → Grows (codes "# figgroup with" ++ spaced_id i.site i.seq) spot ids spot (ids ++ i ∷ [])
further_grows spot ids i s = record {
  comment = λ ws. refl;
  one = one_append (codes "# figgroup with") (spaced_id i.site i.seq) refl (one_append (codes " ")
      (id_text i) refl (one_id i));
  tells = λ ws a. refl;
  adds = λ ws a. ap (λ t. ids ++ filter_map spelt_id t) (words_led (id_text i) ws (word i s) a)
      ∙ (rw (spelt i s) refl ∙ sym (append_assoc ids (i ∷ []) (filter_map spelt_id ws)));
}

-- ---- lines

-- the text is comments and then the rest, and they turn what was told into this
pub record Tells (before : Option Spot) (old : List OpId) (spot : Option Spot) (ids : List OpId)
    (text rest : List ℕ) : Type 0 where
  pub comments : List (List ℕ)
  pub are : lines text ≡ comments ++ lines rest
  pub silent : list_all is_comment comments ≡ true
  pub told : told_above before old (lines text) ≡ told_above spot ids (lines rest)

line_tells : (line rest : List ℕ) (before : Option Spot) (old : List OpId) (spot : Option Spot)
    (ids : List OpId) → Grows line before old spot ids
    → Tells before old spot ids (line ++ 10 ∷ rest) rest
line_tells line rest before old spot ids g =
    let cut = line_alone line rest g.one in
    let bare = append-nil line in
    let comment : is_comment line ≡ true = ap is_comment (sym bare) ∙ g.comment [] in
    let tells : spot_behind before line ≡ spot =
    ap (spot_behind before) (sym bare) ∙ g.tells [] refl in
    let adds : ids_behind old line ≡ ids =
    ap (ids_behind old) (sym bare) ∙ (g.adds [] refl ∙ append-nil ids) in
    record {
      comments = line ∷ [];
      are = cut;
      silent = rw comment refl;
      told = ap (told_above before old) cut
          ∙ (one_told comment
          ∙ (ap (λ s. told_above s (ids_behind old line) (lines rest)) tells
          ∙ ap (λ t. told_above spot t (lines rest)) adds));
    }
  where
    one_told : is_comment line ≡ true → told_above before old (line ∷ lines rest)
        ≡ told_above (spot_behind before line) (ids_behind old line) (lines rest)
    one_told comment = rw comment refl

tells_then : (s t u : Option Spot) (is js ks : List OpId) (a b c : List ℕ) → Tells s is t js a b
    → Tells t js u ks b c → Tells s is u ks a c
tells_then s t u is js ks a b c x y = record {
  comments = x.comments ++ y.comments;
  are = x.are ∙ (ap (λ ls. x.comments ++ ls) y.are
      ∙ sym (append_assoc x.comments y.comments (lines c)));
  silent = list_all-append is_comment x.comments y.comments
      ∙ and_from (list_all is_comment x.comments) (list_all is_comment y.comments) x.silent
      y.silent;
  told = x.told ∙ y.told;
}

-- ---- the ids of a name

ids_tell : (n : ℕ) (more : List OpId) (line rest : List ℕ) (before : Option Spot)
    (old : List OpId) (spot : Option Spot) (ids : List OpId) → Grows line before old spot ids
    → All IsSpelt more → Tells before old spot (ids ++ more)
    (line ++ (flat_map nth_id (enumerate_from n more) ++ 10 ∷ rest)) rest
ids_tell n [] line rest before old spot ids g all =
    subst (λ t. Tells before old spot t (line ++ 10 ∷ rest) rest) (sym (append-nil ids))
    (line_tells line rest before old spot ids g)
ids_tell n (i ∷ more) line rest before old spot ids g all =
    let s = All-head IsSpelt i more all in
    let still = All-tail IsSpelt i more all in
    let spaced = spaced_id i.site i.seq in
    let others = flat_map nth_id (enumerate_from (n + 1) more) in
    let grown = append_assoc ids (i ∷ []) more in
    let same : (own : List ℕ) → Grows (line ++ own) before old spot (ids ++ i ∷ [])
    → Tells before old spot (ids ++ i ∷ more) (line ++ ((own ++ others) ++ 10 ∷ rest)) rest =
    λ own w. subst (λ t. Tells before old spot (ids ++ i ∷ more) t rest)
    (sym (cut_behind line own others (10 ∷ rest)))
    (subst (λ t. Tells before old spot t ((line ++ own) ++ (others ++ 10 ∷ rest)) rest) grown
    (ids_tell (n + 1) more (line ++ own) rest before old spot (ids ++ i ∷ []) w still)) in
    let further = codes "# figgroup with" ++ spaced in
    elim (cases_Bool (n % 8 == 0)) [
      | inl t ↦ elim (cases_Bool (n == 0)) [
        | inl z ↦ rw (t, z) (same (codes " with" ++ spaced)
            (grows_with line before old spot ids g i s))
        | inr z ↦ rw (t, z) (subst (λ x. Tells before old spot (ids ++ i ∷ more) (line ++ x) rest)
            (sym (append_assoc (10 ∷ further) others (10 ∷ rest)))
            (tells_then before spot spot old ids (ids ++ i ∷ more)
            (line ++ 10 ∷ (further ++ (others ++ 10 ∷ rest)))
            (further ++ (others ++ 10 ∷ rest)) rest
            (line_tells line (further ++ (others ++ 10 ∷ rest)) before old spot ids g)
            (subst (λ x. Tells spot ids spot x (further ++ (others ++ 10 ∷ rest)) rest) grown
            (ids_tell (n + 1) more further rest spot ids spot (ids ++ i ∷ [])
            (further_grows spot ids i s) still))))
      ]
      | inr t ↦ rw t (same spaced (grows_id line before old spot ids g i s))
    ]

-- ---- a name

-- the object and the ids of a name are of operations
pub record IsSpeltName (name : Name) : Type 0 where
  pub object : IsSpelt name.object.0
  pub telling : All IsSpelt name.telling

depth_spelt : (d : ℕ) → d ≤ 999 → spelt_depth (decimal d) ≡ Some d
depth_spelt d l =
    let w : whole (decimal d) ≡ Some (pos d) = whole_decimal d (omega (arith, l)) in
    rw (w, le-leb 0 d (omega arith), le-leb d 999 l) refl

-- the line does not go on with a name, as it has the digit of a site
names_object : (i : OpId) (x : List ℕ) → IsSpelt i
    → begins_further (codes "# figgroup " ++ (id_text i ++ x)) ≡ false
names_object i x s =
    let l = s.0.1 in
    subst (λ d. begins_further (codes "# figgroup " ++ (((d ++ codes ".") ++ decimal i.seq) ++ x))
    ≡ false) (sym (site_digit i.site s.0)) (rw (ne_eqb 119 (48 + i.site) (omega (arith, l))) refl)

regrouped : (p i a d x : List ℕ) → (((p ++ i) ++ a) ++ d) ++ x ≡ p ++ (i ++ (a ++ (d ++ x)))
regrouped p i a d x = simp append_assoc refl

module _ (name : Name) (d : ℕ) (s : IsSpeltName name) (l : d ≤ 999) where
  abbrev pub its_spot : Option Spot
  its_spot = Some (record { object = name.object; depth = d })

  abbrev first : List ℕ
  first = codes "# figgroup " ++ id_text name.object.0 ++ codes " at " ++ decimal d

  abbrev name_words : List (List ℕ) → List (List ℕ)
  name_words ws = id_text name.object.0 ∷ codes "at" ∷ decimal d ∷ ws

  first_is : (ws : List (List ℕ)) → first ++ led ws ≡ codes "# figgroup "
      ++ (id_text name.object.0 ++ led (codes "at" ∷ decimal d ∷ ws))
  first_is ws = regrouped (codes "# figgroup ") (id_text name.object.0) (codes " at ") (decimal d)
      (led ws)

  read_words : (ws : List (List ℕ)) → AreWords ws
      → words (id_text name.object.0 ++ led (codes "at" ∷ decimal d ∷ ws)) ≡ name_words ws
  read_words ws a =
      words_led (id_text name.object.0) (codes "at" ∷ decimal d ∷ ws) (word name.object.0 s.object)
      (rw (decimal_word d (omega (arith, l))) a)

  module _ (before : Option Spot) (old : List OpId) where
    first_grows : Grows first before old its_spot []
    first_grows = record {
      comment = λ ws. ap is_comment (first_is ws);
      one = one_append (codes "# figgroup " ++ id_text name.object.0 ++ codes " at ") (decimal d)
          (one_append (codes "# figgroup " ++ id_text name.object.0) (codes " at ")
          (one_append (codes "# figgroup ") (id_text name.object.0) refl (one_id name.object.0)) refl)
          (one_decimal d);
      tells = λ ws a. ap (spot_behind before) (first_is ws) ∙ rw (
        names_object name.object.0 (led (codes "at" ∷ decimal d ∷ ws)) s.object,
        read_words ws a,
        spelt name.object.0 s.object,
        depth_spelt d l,
      ) refl;
      adds = λ ws a. ap (ids_behind old) (first_is ws) ∙ rw (
        names_object name.object.0 (led (codes "at" ∷ decimal d ∷ ws)) s.object,
        read_words ws a,
      ) refl;
    }

    -- the lines of a name tell its object, its depth and its ids, whatever was told before
    pub name_tells : (rest : List ℕ)
        → Tells before old its_spot name.telling (name_lines name d ++ rest) rest
    name_tells rest =
        let ids = flat_map nth_id (enumerate_from 0 name.telling) in
        subst (λ t. Tells before old its_spot name.telling t rest)
        (sym (append_assoc (first ++ ids) (10 ∷ []) rest ∙ append_assoc first ids (10 ∷ rest)))
        (ids_tell 0 name.telling first rest before old its_spot [] first_grows s.telling)
