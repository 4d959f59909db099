-- The words of a lawful drawing lead to it.
use Rattle.std.proofs.Common.{◌≡◌, ◌≢◌, ◌≤◌, ◌<◌, ℕ, suc, true, List, [], ◌∷◌, ◌++◌, length}
use Rattle.std.proofs.Common.{length-append, get_or, refl, sym, ap, ◌∙◌, subst, arith, eqb, inl}
use Rattle.std.proofs.Common.{inr, append_assoc, append-nil}
use Rattle.std.specs.Prelude.{nat_le, IsTrue, is_some, is_none, flat_map, All, AllPairs}
use Rattle.std.proofs.lemmas.Bool.{and_parts, and_from, cases_Bool, leb-true, eqb-true, ne_eqb}
use Rattle.std.proofs.lemmas.Bool.Decides.{leb_tells}
use Rattle.std.proofs.lemmas.List.{get_or_append_left}
use Rattle.std.proofs.lemmas.List.Elements.{All-head, All-tail}
use Rattle.std.proofs.Math.Seq.{get_or-append_seam}
use Rattle.gf_shape.specs.declared.outline.Outline.{Outline}
use Rattle.gf_plane.specs.declared.colour.Rgb.{Rgb}
use Rattle.gf_shape.specs.ShapeLaws.{IsLawful}
use Rattle.gf_plane.specs.ColourBytes.{HasBytes}
use Rattle.gf_figures.specs.declared.figure.Figure.{Figure}
use Rattle.gf_figures.specs.Colours.{Table, colour_in, rgb_of}
use Rattle.gf_figures.specs.DrawingState.{IsFreeNumber, IsLawfulDrawing, IsLawfulFigure}
use Rattle.gf_figures.specs.DrawingState.{is_table_number}
use Rattle.gf_fig_tokens.specs.Layout.{Token}
use Rattle.gf_fig_read.specs.Objects.{Drawn}
use Rattle.gf_fig_read.specs.FigGrammar.{Leads, none, more, nothing}
use Rattle.gf_fig_write.proofs.PrintedObjects.{colour_words, colour_read}
use Rattle.gf_fig_write.proofs.PrintedFigures.{figure_words, figure_read}
use Rattle.gf_fig_read.proofs.NumberLemmas.{rgb_of_number}

abbrev pub IsTableEntry : ℕ × Rgb → Type 0
IsTableEntry e = IsTrue (is_table_number e.0)

-- ---- numbers

none_under : (table : Table) (n : ℕ) (d : ℕ × Rgb)
    → ((k : ℕ) → k < length table → (get_or table k d).0 ≢ n) → is_none (colour_in table n) ≡ true
none_under [] n d h = refl
none_under (e ∷ table) n d h = rw (ne_eqb e.0 n (h 0 (omega arith)))
    (none_under table n d (λ k l. h (suc k) (omega arith)))

free_at : (before : Table) (e : ℕ × Rgb) (es : Table) → All IsTableEntry (before ++ e ∷ es)
    → AllPairs (λ (f g : ℕ × Rgb). f.0 ≢ g.0) (before ++ e ∷ es) → IsFreeNumber before e.0
free_at before e es numbers distinct =
    let here : get_or (before ++ e ∷ es) (length before) e ≡ e = get_or-append_seam before e es e in
    let total = length-append before (e ∷ es) in
    let within : length before < length (before ++ e ∷ es) = omega (arith, total) in
    let number : IsTrue (is_table_number e.0) = subst IsTableEntry here
    (numbers (length before) e within) in
    and_from (is_table_number e.0) (is_none (colour_in before e.0)) number
    (none_under before e.0 e (λ k l same.
    distinct k (length before) e l within
    (ap (λ (x : ℕ × Rgb). x.0) (get_or_append_left before (e ∷ es) e k l)
    ∙ (same ∙ ap (λ (x : ℕ × Rgb). x.0) (sym here)))))

colour_small : (table : Table) (n : ℕ) → All IsTableEntry table
    → IsTrue (is_some (colour_in table n)) → n ≤ 543
colour_small [] n h s = absurd (cc)
colour_small (e ∷ table) n h s = elim (cases_Bool (eqb e.0 n)) [
  | inl t ↦ let m = leb-true e.0 543
      (and_parts (nat_le 32 e.0) (nat_le e.0 543) (All-head IsTableEntry e table h)).1 in
      let q = eqb-true e.0 n t in omega (arith, m, q)
  | inr t ↦ colour_small table n (All-tail IsTableEntry e table h) (rw t at s)
]

pub known_small : (table : Table) (n : ℕ) → All IsTableEntry table
    → IsTrue (is_some (rgb_of table n)) → n ≤ 543
known_small table n h s = elim (leb_tells 32 n) [
  | inl t ↦ colour_small table n h (subst (λ o. IsTrue (is_some o)) (rgb_of_number table n t.1) s)
  | inr t ↦ let l = t.1 in omega (arith, l)
]

-- ---- one after another

pub leads_then : (d m e : Drawn) (ts between left : List Token) → Leads d ts m between
    → Leads m between e left → Leads d ts e left
leads_then d m e ts between left (none c us) next = next
leads_then d m e ts between left (more c k n us first vs one others) next = more c k e us first left
    one (leads_then k n e first vs left others next)

table_leads : (before es : Table) (rest : List Token) → All IsTableEntry (before ++ es)
    → AllPairs (λ (f g : ℕ × Rgb). f.0 ≢ g.0) (before ++ es)
    → All (λ (e : ℕ × Rgb). HasBytes e.1) es
    → Leads (record { table = before; figures = [] }) (flat_map colour_words es ++ rest)
    (record { table = before ++ es; figures = [] }) rest
table_leads before [] rest numbers distinct bytes = subst
    (λ (t : Table). Leads (record { table = before; figures = [] }) rest
    (record { table = t; figures = [] }) rest) (sym (append-nil before)) (none _ rest)
table_leads before (e ∷ es) rest numbers distinct bytes =
    let regrouped : (before ++ e ∷ []) ++ es ≡ before ++ e ∷ es = append_assoc before (e ∷ []) es in
    let first = colour_read (record { table = before; figures = [] }) e
    (flat_map colour_words es ++ rest) refl (free_at before e es numbers distinct)
    (All-head (λ (f : ℕ × Rgb). HasBytes f.1) e es bytes) in
    let others = table_leads (before ++ e ∷ []) es rest
    (subst (All IsTableEntry) (sym regrouped) numbers)
    (subst (AllPairs (λ (f g : ℕ × Rgb). f.0 ≢ g.0)) (sym regrouped) distinct)
    (All-tail (λ (f : ℕ × Rgb). HasBytes f.1) e es bytes) in
    more _ _ _ _ _ _ first (subst
    (λ (t : Table). Leads (record { table = before ++ e ∷ []; figures = [] })
    (flat_map colour_words es ++ rest) (record { table = t; figures = [] }) rest) regrouped others)

abbrev pub HasLawfulShape : Figure Outline → Type 0
HasLawfulShape f = IsLawful f.shape

figures_lead : (table : Table) (before fs : List (Figure Outline)) (rest : List Token)
    → All IsTableEntry table → All (IsLawfulFigure table) fs → All HasLawfulShape fs
    → Leads (record { table = table; figures = before }) (flat_map figure_words fs ++ rest)
    (record { table = table; figures = before ++ fs }) rest
figures_lead table before [] rest numbers lawful shapes = subst
    (λ (gs : List (Figure Outline)). Leads (record { table = table; figures = before }) rest
    (record { table = table; figures = gs }) rest) (sym (append-nil before)) (none _ rest)
figures_lead table before (f ∷ fs) rest numbers lawful shapes =
    let l = and_parts (is_some (rgb_of table f.colour)) (nat_le f.depth 999)
    (All-head (IsLawfulFigure table) f fs lawful) in
    let behind : List Token = flat_map figure_words fs ++ rest in
    let first = figure_read (record { table = table; figures = before }) f behind
    (All-head HasLawfulShape f fs shapes) (known_small table f.colour numbers l.0) l.0
    (leb-true f.depth 999 l.1) in
    let others = figures_lead table (before ++ f ∷ []) fs rest numbers
    (All-tail (IsLawfulFigure table) f fs lawful) (All-tail HasLawfulShape f fs shapes) in
    let moved = subst (λ (gs : List (Figure Outline)). Leads
    (record { table = table; figures = before ++ f ∷ [] }) behind
    (record { table = table; figures = gs }) rest) (append_assoc before (f ∷ []) fs) others in
    let all = more _ _ _ _ _ _ first moved in
    subst (λ ts. Leads (record { table = table; figures = before }) ts
    (record { table = table; figures = before ++ f ∷ fs }) rest)
    (sym (append_assoc (figure_words f) (flat_map figure_words fs) rest)) all

-- the words of drawing d: each colour, then each figure
abbrev pub drawing_words : Drawn → List Token
drawing_words d = flat_map colour_words d.table ++ flat_map figure_words d.figures

pub drawing_leads : (d : Drawn) → IsLawfulDrawing d → All (λ (e : ℕ × Rgb). HasBytes e.1) d.table
    → All HasLawfulShape d.figures → Leads nothing (drawing_words d) d []
drawing_leads d h bytes shapes =
    let colours = table_leads [] d.table (flat_map figure_words d.figures) h.numbers h.distinct
    bytes in
    let figures = figures_lead d.table [] d.figures [] h.numbers h.figures shapes in
    leads_then nothing (record { table = d.table; figures = [] }) d (drawing_words d)
    (flat_map figure_words d.figures) [] colours
    (subst (λ ts. Leads (record { table = d.table; figures = [] }) ts d [])
    (append-nil (flat_map figure_words d.figures)) figures)
