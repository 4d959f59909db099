-- The history of the creations has the colours of the drawing.
use Rattle.std.proofs.Common.{◌≡◌, ℕ, ◌+◌, ◌≤◌, ◌<◌, List, [], ◌∷◌, fold, map, refl, sym, ap, subst}
use Rattle.std.proofs.Common.{◌∙◌, inl, inr, arith}
use Rattle.std.specs.Prelude.{All, Contains, IsTrue, Option, Some, None, option_map, unwrap_or}
use Rattle.std.proofs.lemmas.List.Elements.{All-head, All-tail, All-weaker, Contains-push_cases}
use Rattle.gf_shape.specs.declared.outline.Outline.{Outline}
use Rattle.gf_plane.specs.declared.point.Point.{Point}
use Rattle.gf_shape.specs.FigureMeaning.{outline_holds}
use Rattle.gf_shape.specs.ShapeLaws.{IsLawful}
use Rattle.gf_plane.specs.White.{white}
use Rattle.gf_ops.specs.declared.op.Op.{Op}
use Rattle.gf_ops.specs.OperationOrder.{IsSite, count_of}
use Rattle.gf_ops.specs.ValidHistory.{IsValid}
use Rattle.gf_base.proofs.ListLemmas.{not_Contains-nil}
use Rattle.gf_causal.proofs.CourseLemmas.{count_push_same}
use Rattle.gf_site.specs.SiteState.{authored}
use Rattle.gf_versions.specs.declared.key.Version.{Version}
use Rattle.gf_versions.specs.Above.{IsAbove}
use Rattle.gf_versions.specs.HistoryColour.{HistoryColour, top, blank}
use Rattle.gf_versions.specs.Visible.{version_holds}
use Rattle.gf_figures.specs.declared.figure.Figure.{Figure}
use Rattle.gf_figures.specs.Colours.{Table}
use Rattle.gf_figures.specs.DrawingColour.{figure_colour}
use Rattle.gf_figures.specs.DrawingState.{DrawingState, IsLawfulFigure}
use Rattle.gf_figures.specs.FrontMost.{front_at, nearer_at}
use Rattle.gf_figures.proofs.DrawingLaw.{front_figure_colours, lawful_depth}
use Rattle.gf_drawing.specs.CanonicalDrawing.{PaintsAsFig}
use Rattle.gf_objects.specs.Objects.{start_of}
use Rattle.gf_import.specs.Importing.{creation_of, creations_of}
use Rattle.gf_import.specs.Imported.{IsImportable, history_of, with_change}
use Rattle.gf_import.proofs.AloneLemmas.{first_is_version, first_version, version_is_first}
use Rattle.gf_import.proofs.FrontLemmas.{FrontOf, one_more}
use Rattle.gf_import.proofs.OrderLemmas.{not_above}
use Rattle.gf_objects.proofs.OutlineLemmas.{form_holds-outline}
use Rattle.gf_import.proofs.WrittenLemmas.{IsWritten, written}

module _ (s : ℕ) (table : Table) (p : Point) where
  -- the operations of h have numbers up to the count of their site
  abbrev pub AreNumbered : List Op → Type 0
  AreNumbered h = (b : Op) → Contains h b → b.id.seq ≤ count_of h s

  numbered_push : (h : List Op) (f : Figure Outline) → AreNumbered h
      → AreNumbered (with_change s h (creation_of table f))
  numbered_push h f n b m =
      let a = authored s h (creation_of table f) in
      let k = count_push_same h a s refl in
      elim (Contains-push_cases h a b m) [
        | inl i ↦ let l = n b i in omega arith
        | inr e ↦ let q : count_of h s + 1 ≡ b.id.seq = ap (λ (o : Op). o.id.seq) e in omega arith
      ]

  front_from : (h : List Op) (fs : List (Figure Outline)) (front : Option (Figure Outline))
      → AreNumbered h → All (λ (f : Figure Outline). f.depth < 1000) fs
      → All (λ (f : Figure Outline). IsLawful f.shape) fs →
      FrontOf table p h front → FrontOf table p
      (fold (with_change s) h (map (creation_of table) fs))
      (fold (nearer_at outline_holds p) front fs)
  front_from h [] front n shallow lawful at = at
  front_from h (f ∷ fs) front n shallow lawful at =
      let a = authored s h (creation_of table f) in
      let d = All-head (λ (g : Figure Outline). g.depth < 1000) f fs shallow in
      let l = All-head (λ (g : Figure Outline). IsLawful g.shape) f fs lawful in
      front_from (with_change s h (creation_of table f)) fs (nearer_at outline_holds p front f)
      (numbered_push h f n)
      (All-tail (λ (g : Figure Outline). g.depth < 1000) f fs shallow)
      (All-tail (λ (g : Figure Outline). IsLawful g.shape) f fs lawful)
      (one_more table p h a f (count_of h s) refl refl n d (form_holds-outline f.shape p l) front
      at)

  -- the colour of the one in front is that of the history
  front_colours : (h : List Op) → IsWritten s h → (front : Option (Figure Outline))
      → FrontOf table p h front → HistoryColour h p
      (unwrap_or (option_map (figure_colour table) front) white)
  front_colours h w None none = blank (λ v seen.
      let is = version_is_first h w.valid w.made v seen.visible.version in
      let holds : IsTrue (version_holds (first_version is.op is.start) p) = subst
      (λ (u : Version). IsTrue (version_holds u p)) is.is seen.holds in
      none is.op is.start is.contained is.made holds)
  front_colours h w (Some f) front = top (first_version front.op (start_of table f)) (record {
    seen = record {
      visible = record {
        version = first_is_version h w.valid w.made front.op
            (start_of table f) front.contained front.made;
        shown = refl;
      };
      holds = front.holds;
    };
    top = λ v seen above.
        let is = version_is_first h w.valid w.made v seen.visible.version in
        let holds : IsTrue (version_holds (first_version is.op is.start) p) = subst
        (λ (u : Version). IsTrue (version_holds u p)) is.is seen.holds in
        let up = subst (λ (u : Version). IsAbove u.key
        (first_version front.op (start_of table f)).key) is.is above in
        not_above front.op is.op (start_of table f) is.start
        (w.site is.op is.contained ∙ sym (w.site front.op front.contained))
        (front.lowest is.op is.start is.contained is.made holds) up;
  })

pub creations_valid : (s : ℕ) (d : DrawingState Outline) → IsSite s → IsImportable d
    → IsValid (history_of s (creations_of d))
creations_valid s d site i = (written s site d.table d.figures i.few i.in_range).valid

pub creations_paint : (s : ℕ) (d : DrawingState Outline) → IsSite s → IsImportable d
    → PaintsAsFig (history_of s (creations_of d)) d
creations_paint s d site i p =
    let shallow = All-weaker (IsLawfulFigure d.table) (λ (f : Figure Outline). f.depth < 1000)
    (lawful_depth d.table) d.figures i.drawing.figures in
    let front = front_from s d.table p [] d.figures None (λ b m. absurd (not_Contains-nil b m))
    shallow i.outlines (λ b t m c h. not_Contains-nil b m) in
    let colours = front_colours s d.table p (history_of s (creations_of d))
    (written s site d.table d.figures i.few i.in_range) (front_at outline_holds p d.figures)
    front in
    subst (HistoryColour (history_of s (creations_of d)) p)
    (sym (front_figure_colours outline_holds d.table d.figures p i.drawing.figures)) colours
