-- A figure that stands directly beneath the lines of its name is read under it.
--
-- Behind the header the tokens before it are those of whole objects, so they lead the reading to
-- where an object begins. The lines of the name stand above the next line, whose first token begins
-- the figure.
use Rattle.std.proofs.Common.{◌≡◌, ◌≢◌, ◌≤◌, ℕ, ◌+◌, true, false, List, [], ◌∷◌, ◌++◌, length}
use Rattle.std.proofs.Common.{length-append, drop, refl, sym, ap, subst, ◌∙◌, arith, append_assoc}
use Rattle.std.proofs.Common.{append-nil, inl, inr}
use Rattle.std.specs.Prelude.{All, IsTrue, Option, Some, None, codes, nat_le, not, slice_get, ◌&&◌}
use Rattle.std.specs.List.{fold, list_all}
use Rattle.std.proofs.lemmas.Bool.{and_parts, leb-true}
use Rattle.std.proofs.lemmas.Grind.{flat_map-append}
use Rattle.std.proofs.lemmas.List.{append_cancel_right}
use Rattle.std.proofs.lemmas.List.Elements.{All-cons, All-nil, filter-append}
use Rattle.gf_ops.specs.declared.op.OpId.{OpId}
use Rattle.gf_ops.specs.Limits.{is_id, is_site}
use Rattle.gf_fig_tokens.specs.Layout.{Token, is_comment, lines, plain, tokens, words}
use Rattle.gf_fig_read.specs.FigGrammar.{Leads, Reads, nothing}
use Rattle.gf_fig_read.specs.Objects.{Drawn}
use Rattle.gf_fig_read.proofs.GrammarLemmas.{ok_or}
use Rattle.gf_fig_named.specs.declared.above.Spot.{Spot}
use Rattle.gf_fig_named.specs.declared.figures.Place.{Place}
use Rattle.gf_fig_named.specs.declared.reading.Named.{Named}
use Rattle.gf_fig_named.specs.Comments.{name_lines}
use Rattle.gf_fig_named.specs.FigureNames.{begins, behind_lines, figures_named, line_figures}
use Rattle.gf_fig_named.specs.FigureNames.{named_figures, next, place_at}
use Rattle.gf_fig_named.specs.NamedFigures.{AreNamed, IsNamed, is_spelt}
use Rattle.gf_fig_named.specs.NamesAbove.{name_above, named_at, told_above}
use Rattle.gf_fig_named.proofs.AboveLemmas.{IsSpelt, IsSpeltName, its_spot, name_tells}
use Rattle.gf_fig_named.proofs.LeadLemmas.{IsAtFigure, at_figure, leads_over}
use Rattle.gf_fig_named.proofs.StepLemmas.{begun_in, passes_then, start}
use Rattle.gf_fig_named.proofs.SilentLemmas.{has_first, lines_behind}
use Rattle.gf_fig_named.proofs.ScanLemmas.{AreComments, AreSilent, ends_before, header_read}
use Rattle.gf_fig_named.proofs.ScanLemmas.{no_plain, plain_behind, scanned, skipped, told_on}

-- ---- the figure beneath its name

slice_at : {X : Type 0} (xs ys : List X) (x : X) (k : ℕ) → length xs ≡ k
    → slice_get (xs ++ x ∷ ys) k ≡ Some x
slice_at [] ys x k e = ap (slice_get (x ∷ ys)) (sym e)
slice_at (y ∷ xs) ys x k e =
    ap (slice_get (y ∷ (xs ++ x ∷ ys))) (sym e) ∙ slice_at xs ys x (length xs) refl

-- comments that tell a name stand over a line that begins a figure
module _ (cs ks : List (List ℕ)) (line : List ℕ) (named : Named) (are : AreComments cs)
    (tell : (s : Option Spot) (ids : List OpId)
    → told_above s ids (cs ++ line ∷ ks) ≡ Some named) (plainly : is_comment line ≡ false)
    (filled : words line ≢ []) where
  abbrev under : List (List ℕ)
  under = cs ++ line ∷ ks

  under_tokens : tokens (plain under) ≡ words line ++ tokens (plain ks)
  under_tokens = ap tokens (no_plain cs (line ∷ ks) are) ∙ rw plainly refl

  named_first : (silent : List (List ℕ)) → AreSilent silent → (token : Token)
      (others : List Token) → tokens (plain under) ≡ token ∷ others → begins start token ≡ true
      → (more : List (Option Named))
      × (named_figures start (silent ++ under) under ≡ Some named ∷ more)
  named_first silent all token others cut first =
      let s = told_on None [] silent under all in
      let r = of (words line) refl in (
        r.0,
        skipped start (silent ++ under) cs (line ∷ ks) are
            ∙ (r.1 ∙ ap (λ n. n ∷ r.0) (s.2 ∙ tell s.0 s.1)),
      )
    where
      of : (ws : List Token) → words line ≡ ws → (more : List (Option Named))
          × (named_figures start (silent ++ under) (line ∷ ks)
          ≡ name_above (silent ++ under) ∷ more)
      of [] w = absurd (filled w)
      of (t ∷ ws) w =
          let whole : t ∷ (ws ++ tokens (plain ks)) ≡ token ∷ others =
          ap (λ us. us ++ tokens (plain ks)) (sym w) ∙ (sym under_tokens ∙ cut) in
          let same : t ≡ token = cc in
          let begun : begins start t ≡ true = ap (begins start) same ∙ first in (
            line_figures (next start t) None ws
                ++ named_figures (fold next start (t ∷ ws)) ks ks,
            rw (plainly, w) (rw begun refl),
          )

  -- behind the header and whole objects the line begins figure k of the text
  abbrev behind : ℕ → List (List ℕ) → List (List ℕ)
  behind n ls = behind_lines n (ls ++ under)

  figure_beneath : (n : ℕ) (ls : List (List ℕ)) (first second : Token) (all : List Token)
      (before : Drawn) (k : ℕ) → tokens (plain (behind n ls)) ≡ first ∷ second ∷ all
      → Leads nothing all before (tokens (plain under))
      → IsAtFigure before (tokens (plain under)) k
      → slice_get (named_figures (place_at 2 false) (behind n ls) (behind n ls)) k ≡ Some (Some named)
  figure_beneath n ls first second all before k cut led at =
      let left = tokens (plain under) in
      let o = leads_over nothing before all left led in
      let so = o.1.figures in
      let figures = at.figures in
      let x = passes_then (place_at 2 false) start start (first ∷ second ∷ all) all left 0 o.0
      (record { taken = first ∷ second ∷ []; cut = refl; place = refl; figures = refl })
      o.1.passes in
      let none = x.figures in
      elim (ends_before n ls under) [
        | inl e ↦
            let own = behind_lines n ls in
            let parts : tokens (plain own) ++ left ≡ x.taken ++ left =
            sym (ap tokens (filter-append (λ l. not (is_comment l)) own under)
            ∙ flat_map-append words (plain own) (plain under))
            ∙ (ap (λ ls. tokens (plain ls)) (sym e) ∙ (cut ∙ x.cut)) in
            let same = append_cancel_right (tokens (plain own)) x.taken left parts in
            let r = scanned own [] under (place_at 2 false) refl in
            let many = r.many in
            let begun = ap (begun_in (place_at 2 false)) same in
            let there = ap (fold next (place_at 2 false)) same ∙ x.place in
            let hit = named_first r.silent r.all at.token at.others at.cut at.begins in
            ap (λ ls. slice_get (named_figures (place_at 2 false) ls ls) k) e
            ∙ (ap (λ names. slice_get names k)
            (r.are
            ∙ (ap (λ p. r.found ++ named_figures p (r.silent ++ under) under) there
            ∙ ap (λ names. r.found ++ names) hit.1))
            ∙ slice_at r.found hit.0 (Some named) k (omega (arith, many, begun, none, so, figures)))
        | inr few ↦
            let whole = ap length cut in
            let c = ap length o.1.passes.cut in
            let l = length-append o.1.passes.taken left in
            absurd (omega (arith, few, whole, c, l))
      ]

-- ---- the name

id_spelt : (i : OpId) → IsTrue (is_id i) → IsSpelt i
id_spelt i t =
    let p = and_parts (is_site i.site && nat_le 1 i.seq) (nat_le i.seq 10000) t in
    let q = and_parts (is_site i.site) (nat_le 1 i.seq) p.0 in
    let s = and_parts (nat_le 1 i.site) (nat_le i.site 8) q.0 in
    ((leb-true 1 i.site s.0, leb-true i.site 8 s.1), leb-true 1 i.seq q.1, leb-true i.seq 10000 p.1)

ids_spelt : (ids : List OpId) → list_all is_id ids ≡ true → All IsSpelt ids
ids_spelt [] t = All-nil IsSpelt
ids_spelt (i ∷ ids) t =
    let p = and_parts (is_id i) (list_all is_id ids) t in
    All-cons IsSpelt i ids (id_spelt i p.0) (ids_spelt ids p.1)

name_spelt : (named : Named) → IsTrue (is_spelt named)
    → IsSpeltName named.name × (named.depth ≤ 999)
name_spelt named t =
    let ids = named.name.telling in
    let p = and_parts (is_id named.name.object.0 && list_all is_id ids) (nat_le named.depth 999) t in
    let q = and_parts (is_id named.name.object.0) (list_all is_id ids) p.0 in (
      record { object = id_spelt named.name.object.0 q.0; telling = ids_spelt ids q.1 },
      leb-true named.depth 999 p.1,
    )

-- ---- the text

begins_with : (ls : List (List ℕ)) (line : List ℕ) → slice_get ls 0 ≡ Some line
    → (others : List (List ℕ)) × (ls ≡ line ∷ others)
begins_with [] line e = absurd cc
begins_with (l ∷ ls) line e = let same : l ≡ line = cc in (ls, ap (λ x. x ∷ ls) same)

one_figure : (fig : List ℕ) (d : Drawn) → Reads fig d → (k : ℕ) (named : Named)
    → IsNamed fig (length d.table + k + 1) named
    → slice_get (figures_named (lines fig)) k ≡ Some (Some named)
one_figure fig d reads k named h =
    let spelt = name_spelt named h.spelt in
    let name = named.name in
    let said = name_lines name named.depth in
    let t = name_tells name named.depth spelt.0 spelt.1 None [] h.back in
    let before = h.begins.before in
    let own = has_first h.front [] in
    let next = begins_with (lines h.back) h.next h.line in
    let cs = t.comments in
    let under = cs ++ h.next ∷ next.0 in
    let body : lines (said ++ h.back) ≡ under = t.are ∙ ap (λ ls. cs ++ ls) next.1 in
    let are : lines fig ≡ (own.head ∷ own.others) ++ under =
    ap lines (h.whole ∙ (append_assoc (h.front ++ codes "\n") said h.back
    ∙ append_assoc h.front (codes "\n") (said ++ h.back)))
    ∙ (lines_behind h.front (said ++ h.back)
    ∙ (ap (λ ls. ls ++ lines (said ++ h.back)) own.is
    ∙ ap (λ ls. (own.head ∷ own.others) ++ ls) body)) in
    let tell : (s : Option Spot) (ids : List OpId) → told_above s ids under ≡ Some named =
    λ s ids. ap (told_above s ids) (sym body)
    ∙ ((name_tells name named.depth spelt.0 spelt.1 s ids h.back).told
    ∙ (ap (told_above (its_spot name named.depth spelt.0 spelt.1) name.telling) next.1
    ∙ loud h.next next.0 h.directly.0 h.directly.1 (its_spot name named.depth spelt.0 spelt.1)
    name.telling)) in
    let all = reads.all in
    let same : h.all ≡ all = ap (ok_or h.all) (sym h.read ∙ reads.tokens) in
    let left : tokens (plain (lines h.back)) ≡ tokens (plain under) =
    ap (λ ls. tokens (plain ls)) next.1 ∙ sym (ap tokens (no_plain cs (h.next ∷ next.0) t.silent)) in
    let led : Leads nothing all before (tokens (plain under)) =
    subst (λ us. Leads nothing us before (tokens (plain under))) same
    (subst (λ us. Leads nothing h.all before us) left h.begins.objects) in
    let at = at_figure all (tokens (plain under)) before d k reads.objects led
    (λ e. h.begins.further (left ∙ e)) h.begins.number in
    let r = header_read fig all reads.tokens in
    let cut : tokens (plain (behind_lines 7 (own.others ++ under))) ≡ r.first ∷ r.second ∷ all =
    ap tokens (plain_behind 7 (own.others ++ under)
    ∙ ap (λ ls. drop 7 (plain (drop 1 ls))) (sym are)) ∙ r.is in
    ap (λ ls. slice_get (figures_named ls) k) are
    ∙ figure_beneath cs next.0 h.next named t.silent tell h.directly.0 h.directly.1 7 own.others
    r.first r.second all before k cut led at
  where
    loud : (line : List ℕ) (ls : List (List ℕ)) → is_comment line ≡ false → words line ≢ []
        → (s : Option Spot) (ids : List OpId) → told_above s ids (line ∷ ls) ≡ named_at s ids
    loud line ls plainly filled s ids = of (words line) refl
      where
        of : (ws : List Token) → words line ≡ ws
            → told_above s ids (line ∷ ls) ≡ named_at s ids
        of [] w = absurd (filled w)
        of (t ∷ ws) w = rw (plainly, w) refl

-- names have been found in all lines, so each figure has the one that stands over it
pub figures_read : (fig : List ℕ) (names : List (Option Named)) (p : Place)
    (above rest : List (List ℕ)) → rest ≡ []
    → names ++ named_figures p above rest ≡ figures_named (lines fig) → (d : Drawn) → Reads fig d
    → AreNamed fig d names
figures_read fig names p above rest none found d reads k named h =
    ap (λ ns. slice_get ns k) (sym (append-nil names)
    ∙ (ap (λ ls. names ++ named_figures p above ls) (sym none) ∙ found))
    ∙ one_figure fig d reads k named h
