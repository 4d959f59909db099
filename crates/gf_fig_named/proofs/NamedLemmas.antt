-- A named text reads as the drawing without its comments, and this has the colours of the history.
use Rattle.std.proofs.Common.{◌≡◌, ◌≤◌, ℕ, ◌+◌, List, [], ◌∷◌, ◌++◌, map, length, refl, sym}
use Rattle.std.proofs.Common.{ap, subst, ◌∙◌, arith, append_assoc, append-nil}
use Rattle.std.specs.Prelude.{All, IsTrue, codes, flat_map, is_some, nat_le, zip}
use Rattle.std.specs.Fmt.{decimal}
use Rattle.std.specs.List.{AllZip, enumerate_from}
use Rattle.std.proofs.lemmas.Bool.{and_from, and_parts, le-leb}
use Rattle.std.proofs.lemmas.List.FromFn.{length-enumerate_from}
use Rattle.std.proofs.lemmas.List.{length-map}
use Rattle.std.proofs.lemmas.List.Elements.{All-cons, All-head, All-map, All-nil, All-tail}
use Rattle.std.proofs.lemmas.Slice.Zip.{AllZip-long, seconds-zip}
use Rattle.gf_shape.specs.declared.any_shape.AnyShape.{AnyShape}
use Rattle.gf_plane.specs.declared.colour.Rgb.{Rgb}
use Rattle.gf_shape.specs.declared.outline.Outline.{Outline}
use Rattle.gf_shape.specs.declared.outline.Outline.TheVariants.{Chain, Disc, Oval}
use Rattle.gf_shape.specs.FigureMeaning.{outline_holds}
use Rattle.gf_shape.specs.Outlines.{any_outline}
use Rattle.gf_plane.specs.ColourBytes.{HasBytes}
use Rattle.gf_ops.specs.declared.op.Op.{Op}
use Rattle.gf_ops.specs.OperationOrder.{count_of}
use Rattle.gf_ops.specs.ValidHistory.{IsValid}
use Rattle.gf_versions.specs.declared.placed.Placed.{Placed}
use Rattle.gf_versions.specs.Ranking.{AreRanked}
use Rattle.gf_versions.specs.HistoryColour.{HistoryColour}
use Rattle.gf_plane.specs.HexDigits.{hex_rgb}
use Rattle.gf_figures.specs.declared.figure.Figure.{Figure}
use Rattle.gf_figures.specs.Colours.{Table, rgb_of}
use Rattle.gf_figures.specs.DrawingState.{DrawingState, IsLawfulDrawing, IsLawfulFigure}
use Rattle.gf_figures.specs.Outlined.{figure_outlined, outlined}
use Rattle.gf_drawing.specs.CanonicalDrawing.{Fits, IsCanonical, canonical_drawing}
use Rattle.gf_drawing.specs.CanonicalDrawing.{canonical_figure}
use Rattle.gf_drawing.specs.CanonicalDrawing.{PaintsAsFig, canonical_figures, colours_of}
use Rattle.gf_drawing.proofs.CanonicalColour.{canonical_colour-outlined}
use Rattle.gf_fig_tokens.specs.Layout.{lines, object_tokens, plain}
use Rattle.gf_fig_read.specs.FigGrammar.{Reads}
use Rattle.gf_fig_read.specs.Objects.{Drawn}
use Rattle.gf_fig_read.proofs.GrammarLemmas.{one_drawing}
use Rattle.gf_fig_write.specs.FigText.{chain_line, colour_line, disc_numbers, fig_header, fig_text}
use Rattle.gf_fig_write.specs.FigText.{figure_lines, filling_fields, outline_lines, oval_numbers}
use Rattle.gf_fig_write.specs.FigText.{spaced_point}
use Rattle.gf_fig_write.specs.ShownHistory.{Shows}
use Rattle.gf_fig_write.proofs.CanonicalLemmas.{figures_outlined, items_bytes, items_outlined}
use Rattle.gf_fig_write.proofs.CanonicalLemmas.{lawful_canonical, seen_bytes, table_bytes}
use Rattle.gf_fig_write.proofs.ReadingBack.{DrawsLawfully, text_reads}
use Rattle.gf_fig_named.specs.declared.naming.Name.{Name}
use Rattle.gf_fig_named.specs.Comments.{name_lines}
use Rattle.gf_fig_named.specs.NamedText.{IsNameOf, IsNamedText, first_lines, known_lines}
use Rattle.gf_fig_named.specs.NamedText.{named_lines}
use Rattle.gf_fig_named.specs.NamedText.{named_text}
use Rattle.gf_fig_named.specs.Raised.{figure_raised, named_depth, drawing_raised}
use Rattle.gf_fig_named.proofs.CommentLemmas.{known_silent, name_silent}
use Rattle.gf_fig_named.proofs.RaisedLemmas.{IsRising, named_fits, named_rises, raised_colours}
use Rattle.gf_fig_named.proofs.SilentLemmas.{EndsLine, behind_one, behind_pieces, reads_alike}
use Rattle.gf_fig_named.proofs.SilentLemmas.{told_pieces, tokens_alike}

-- ---- each piece is whole lines

outline_ends : (c d : ℕ) (o : Outline) → EndsLine (outline_lines c d o)
outline_ends c d (Chain ring) = record {
  line = chain_line c d ring ++ (codes "\t" ++ flat_map spaced_point ring.points);
  is = sym (append_assoc (chain_line c d ring) (codes "\t" ++ flat_map spaced_point ring.points)
      (10 ∷ []));
}
outline_ends c d (Disc round) = record {
  line = codes "1 3 0 0 " ++ filling_fields c d ++ codes " 1 0.0000" ++ disc_numbers round;
  is = refl;
}
outline_ends c d (Oval oblong) = record {
  line = codes "1 1 0 0 " ++ filling_fields c d ++ codes " 1 0.0000" ++ oval_numbers oblong;
  is = refl;
}

colour_ends : (e : ℕ × Rgb) → EndsLine (colour_line e)
colour_ends e = record {
  line = codes "0 " ++ decimal e.0 ++ codes " #" ++ hex_rgb e.1;
  is = refl;
}

resolution_ends : EndsLine (codes "1200 2\n")
resolution_ends = record { line = codes "1200 2"; is = refl }

-- the first lines without their last line feed
abbrev header_line : List ℕ
header_line = codes "#FIG 3.2\nLandscape\nCenter\nMetric\nA4\n100.00\nSingle\n-2"

-- ---- the text

module _ {S : Type 0} (outline : S → Outline) where
  abbrev own_lines : Name × Figure S → List ℕ
  own_lines p = figure_lines outline p.1

  bare_figures : (ps : List (Name × Figure S)) → flat_map own_lines ps
      ≡ flat_map (figure_lines outline) (map (λ (p : Name × Figure S). p.1) ps)
  bare_figures [] = refl
  bare_figures (p ∷ ps) = ap (λ t. figure_lines outline p.1 ++ t) (bare_figures ps)

  bare_text : (names : List Name) (figures : List (Figure S)) → length names ≡ length figures
      → plain (lines (flat_map (named_lines outline) (zip names figures)))
      ≡ plain (lines (flat_map (figure_lines outline) figures))
  bare_text names figures long =
      let ps : List (Name × Figure S) = zip names figures in
      let named = flat_map (named_lines outline) ps in
      let own = flat_map own_lines ps in
      ap (λ t. plain (lines t)) (sym (append-nil named))
      ∙ (told_pieces own_lines (λ p. outline_ends p.1.colour p.1.depth (outline p.1.shape))
      (λ p. name_lines p.0 p.1.depth) (λ p rest. name_silent p.0 p.1.depth rest) ps []
      ∙ (ap (λ t. plain (lines t)) (append-nil own)
      ∙ ap (λ t. plain (lines t)) (bare_figures ps
      ∙ ap (flat_map (figure_lines outline)) (seconds-zip names figures (sym long)))))

  named_tokens : (counts : ℕ → ℕ) (names : List Name) (d : DrawingState S)
      → length names ≡ length d.figures
      → object_tokens (named_text outline counts names d) ≡ object_tokens (fig_text outline d)
  named_tokens counts names d long =
      let known = known_lines counts in
      let colours = flat_map colour_line d.table in
      let named = flat_map (named_lines outline) (zip names d.figures) in
      let own = flat_map (figure_lines outline) d.figures in
      let resolution = codes "1200 2\n" in
      let cut : named_text outline counts names d
      ≡ header_line ++ 10 ∷ (known ++ (colours ++ named)) =
      append_assoc (first_lines ++ known) colours named
      ∙ append_assoc first_lines known (colours ++ named) in
      let whole : fig_text outline d ≡ header_line ++ 10 ∷ (resolution ++ (colours ++ own)) =
      append_assoc fig_header colours own in
      ap object_tokens cut
      ∙ (tokens_alike header_line (known ++ (colours ++ named)) (resolution ++ (colours ++ own))
      (known_silent counts (colours ++ named)
      ∙ behind_one resolution (colours ++ named) (colours ++ own) resolution_ends
      (behind_pieces colour_line colour_ends d.table named own (bare_text names d.figures long)))
      ∙ ap object_tokens (sym whole))

  -- a named text reads as the drawing of its figures
  pub named_reads : (counts : ℕ → ℕ) (names : List Name) (d : DrawingState S)
      → length names ≡ length d.figures → IsLawfulDrawing d
      → All (λ (e : ℕ × Rgb). HasBytes e.1) d.table → All (DrawsLawfully outline) d.figures
      → Reads (named_text outline counts names d) (outlined outline d)
  named_reads counts names d long lawful bytes shapes =
      reads_alike (fig_text outline d) (named_text outline counts names d) (outlined outline d)
      (sym (named_tokens counts names d long)) (text_reads outline d lawful bytes shapes)

  -- ---- depths

  raised-outlined : (g : ℕ → ℕ) (fs : List (Figure S))
      → map (figure_outlined outline) (map (figure_raised g) fs)
      ≡ map (figure_raised g) (map (figure_outlined outline) fs)
  raised-outlined g [] = refl
  raised-outlined g (f ∷ fs) =
      ap (λ r. figure_raised g (figure_outlined outline f) ∷ r) (raised-outlined g fs)

  outlined-raised : (g : ℕ → ℕ) (d : DrawingState S)
      → outlined outline (drawing_raised g d) ≡ drawing_raised g (outlined outline d)
  outlined-raised g d =
      let e = raised-outlined g d.figures in λ i. record { table = d.table; figures = e i }

  -- a drawing of outlines keeps the colours of a history where its depths are raised in their order
  pub raised_paints : (h : List Op) (g : ℕ → ℕ) (d : DrawingState S) → IsRising g
      → IsLawfulDrawing d → IsLawfulDrawing (drawing_raised g d) → PaintsAsFig h
      (outlined outline d)
      → PaintsAsFig h (outlined outline (drawing_raised g d))
  raised_paints h g d rising lawful deep paints =
      let e = outlined outline d in
      let flat : All (IsLawfulFigure d.table) e.figures =
      All-map (IsLawfulFigure d.table) (figure_outlined outline) d.figures lawful.figures in
      let low : All (IsLawfulFigure d.table) (outlined outline (drawing_raised g d)).figures =
      All-map (IsLawfulFigure d.table) (figure_outlined outline) (drawing_raised g d).figures
      deep.figures
      in
      let under : All (IsLawfulFigure d.table) (drawing_raised g e).figures =
      subst (λ (k : DrawingState Outline). All (IsLawfulFigure d.table) k.figures)
      (outlined-raised g d) low in
      subst (PaintsAsFig h) (sym (outlined-raised g d))
      (λ p. subst (HistoryColour h p) (sym (raised_colours g rising outline_holds p e flat under))
      (paints p))

  outlined_still : (g : ℕ → ℕ) (fs : List (Figure S)) → All (DrawsLawfully outline) fs
      → All (DrawsLawfully outline) (map (figure_raised g) fs)
  outlined_still g fs all = All-map (DrawsLawfully outline) (figure_raised g) fs all

-- ---- the canonical drawing, raised

module _ (cs : List Rgb) (table : Table) (count : ℕ) (most : count ≤ 1000) where
  figures_raised : (n : ℕ) (items : List (Placed AnyShape)) → n + length items ≤ count
      → All (IsLawfulFigure table) (map (canonical_figure cs) (enumerate_from n items))
      → All (IsLawfulFigure table)
      (map (figure_raised (named_depth count)) (map (canonical_figure cs) (enumerate_from n items)))
  figures_raised n [] few all = All-nil (IsLawfulFigure table)
  figures_raised n (i ∷ items) few all =
      let f : Figure AnyShape = canonical_figure cs (n, i) in
      let others = map (canonical_figure cs) (enumerate_from (n + 1) items) in
      let own = All-head (IsLawfulFigure table) f others all in
      let seen = and_parts (is_some (rgb_of table f.colour)) (nat_le n 999) own in
      let deep : IsTrue (nat_le (named_depth count n) 999) =
      le-leb (named_depth count n) 999 (named_fits count n most (omega (arith, few))) in
      All-cons (IsLawfulFigure table) (figure_raised (named_depth count) f)
      (map (figure_raised (named_depth count)) others)
      (and_from (is_some (rgb_of table f.colour)) (nat_le (named_depth count n) 999) seen.0 deep)
      (figures_raised (n + 1) items (omega (arith, few))
      (All-tail (IsLawfulFigure table) f others all))

-- a drawing of items has as many figures as these have names
module _ (h : List Op) (items : List (Placed AnyShape)) where
  as_many : (names : List Name) → AllZip (IsNameOf h items) items names
      → length names ≡ length (canonical_figures items)
  as_many names all = AllZip-long (IsNameOf h items) items names all
      ∙ sym (length-map (enumerate_from 0 items) (canonical_figure (colours_of items))
      ∙ length-enumerate_from 0 items)

  pub as_long : (names : List Name) → AllZip (IsNameOf h items) items names
      → (d : DrawingState AnyShape) → d ≡ canonical_drawing items → length names ≡ length d.figures
  as_long names all d is =
      subst (λ (e : DrawingState AnyShape). length names ≡ length e.figures) (sym is)
      (as_many names all)

  -- the text of the drawing of items with their names is the named one
  pub is_named : AreRanked h items → Fits items → (names : List Name)
      → AllZip (IsNameOf h items) items names → (d : DrawingState AnyShape)
      → d ≡ canonical_drawing items → (text : List ℕ)
      → text ≡ named_text any_outline (count_of h) names
      (drawing_raised (named_depth (length d.figures)) d)
      → IsNamedText h text
  is_named ranked fits names all d is text so =
      let long : length (canonical_figures items) ≡ length items =
      length-map (enumerate_from 0 items) (canonical_figure (colours_of items))
      ∙ length-enumerate_from 0 items in
      record {
        items = items;
        ranked = ranked;
        fits = fits;
        names = names;
        named = all;
        is = so
            ∙ (ap (λ (e : DrawingState AnyShape). named_text any_outline (count_of h) names
            (drawing_raised (named_depth (length e.figures)) e)) is
            ∙ ap (λ n. named_text any_outline (count_of h) names
            (drawing_raised (named_depth n) (canonical_drawing items))) long);
      }

module _ (h : List Op) (text : List ℕ) (valid : IsValid h) (named : IsNamedText h text) where
  abbrev its_drawing : DrawingState AnyShape
  its_drawing = canonical_drawing named.items

  abbrev its_depth : ℕ → ℕ
  its_depth = named_depth (length named.items)

  abbrev pub its_raised : DrawingState AnyShape
  its_raised = drawing_raised its_depth its_drawing

  its_canonical : IsCanonical h its_drawing
  its_canonical = record {
    items = named.items;
    ranked = named.ranked;
    fits = named.fits;
    drawing = refl;
  }

  lawful_flat : IsLawfulDrawing its_drawing
  lawful_flat = lawful_canonical named.items named.fits.versions named.fits.colours

  lawful_raised : IsLawfulDrawing its_raised
  lawful_raised = record {
    numbers = lawful_flat.numbers;
    distinct = lawful_flat.distinct;
    figures = figures_raised (colours_of named.items) its_drawing.table (length named.items)
        named.fits.versions 0 named.items (omega arith) lawful_flat.figures;
  }

  its_names : length named.names ≡ length its_raised.figures
  its_names = as_many h named.items named.names named.named
      ∙ sym (length-map (canonical_figures named.items) (figure_raised its_depth))

  its_bytes : All (λ (e : ℕ × Rgb). HasBytes e.1) its_raised.table
  its_bytes =
      let items = named.items in
      table_bytes 32 (colours_of items) (seen_bytes (map (λ (i : Placed AnyShape). i.colour) items)
      (All-map HasBytes (λ (i : Placed AnyShape). i.colour) items
      (items_bytes h valid items named.ranked)))

  its_shapes : All (DrawsLawfully any_outline) its_raised.figures
  its_shapes = outlined_still any_outline its_depth its_drawing.figures
      (figures_outlined (colours_of named.items) 0 named.items
      (items_outlined h valid named.items named.ranked))

  -- the named text reads as the drawing of the outlines
  pub named_text_reads : Reads text (outlined any_outline its_raised)
  named_text_reads =
      subst (λ (t : List ℕ). Reads t (outlined any_outline its_raised)) (sym named.is)
      (named_reads any_outline (count_of h) named.names its_raised its_names lawful_raised its_bytes
      its_shapes)

  -- the named text shows the history
  pub named_text_shows : Shows text h
  named_text_shows =
      let paints : PaintsAsFig h (outlined any_outline its_raised) =
      raised_paints any_outline h its_depth its_drawing (named_rises (length named.items))
      lawful_flat lawful_raised (canonical_colour-outlined h its_drawing its_canonical) in
      record {
        drawing = outlined any_outline its_raised;
        reads = named_text_reads;
        colours = λ (d : Drawn) other. subst (PaintsAsFig h)
            (one_drawing text (outlined any_outline its_raised) d named_text_reads other) paints;
      }
