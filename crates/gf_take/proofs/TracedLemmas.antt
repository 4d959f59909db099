-- Items and figures that are compared one with the other.
use Rattle.std.proofs.Common.{◌≡◌, ℕ, ◌+◌, ◌<◌, List, [], ◌∷◌, ◌++◌, zero, suc, map, length, take}
use Rattle.std.proofs.Common.{get_or, sym, ap, subst, ◌∙◌, arith}
use Rattle.std.proofs.lemmas.List.{map-append, take_more}
use Rattle.std.proofs.lemmas.List.Elements.{All-head, All-push, All-tail}
use Rattle.gf_shape.specs.declared.any_shape.AnyShape.{AnyShape}
use Rattle.gf_plane.specs.declared.colour.Rgb.{Rgb}
use Rattle.gf_shape.specs.declared.outline.Outline.{Outline}
use Rattle.gf_plane.specs.declared.point.Point.{Point}
use Rattle.gf_shape.specs.Outlines.{any_outline}
use Rattle.gf_shape.specs.ShapeLaws.{IsLawful}
use Rattle.gf_ops.specs.declared.change.Form.{Form}
use Rattle.gf_versions.specs.declared.placed.Placed.{Placed}
use Rattle.gf_figures.specs.declared.figure.Figure.{Figure}
use Rattle.gf_figures.specs.Colours.{Table}
use Rattle.gf_figures.specs.DrawingColour.{figure_colour}
use Rattle.gf_take.specs.Matching.{AreTraced, IsTraced, trace}

abbrev Trace : Type 0
Trace = Form × Point × Rgb

abbrev Lawful : Figure Outline → Type 0
Lawful f = IsLawful f.shape

module _ (table : Table) where
  abbrev of_item : Placed AnyShape → Trace
  of_item i = trace (any_outline i.shape) i.colour

  abbrev of_figure : Figure Outline → Trace
  of_figure f = trace f.shape (figure_colour table f)

  traced_push : (items : List (Placed AnyShape)) (fs : List (Figure Outline)) (i : Placed AnyShape)
      (f : Figure Outline) → AreTraced table items fs
      → IsTraced table (any_outline i.shape) i.colour f
      → AreTraced table (items ++ i ∷ []) (fs ++ f ∷ [])
  traced_push items fs i f t one =
      let last : of_item i ≡ of_figure f = λ k. (one.alike.form k, one.alike.place k, one.colour k)
      in
      record {
        same = map-append of_item items (i ∷ [])
            ∙ ((λ k. t.same k ++ last k ∷ []) ∙ sym (map-append of_figure fs (f ∷ [])));
        lawful = All-push Lawful fs f t.lawful one.alike.lawful;
      }

  module _ {R : Type 0} (view : R → Figure Outline) where
    -- one more item is like one more figure
    pub traced_more : (items : List (Placed AnyShape)) (refs : List R) (k : ℕ) (i : Placed AnyShape)
        (r : R) → k < length items → k < length refs → i ≡ get_or items k i → r ≡ get_or refs k r
        → AreTraced table (take k items) (map view (take k refs))
        → IsTraced table (any_outline i.shape) i.colour (view r)
        → AreTraced table (take (k + 1) items) (map view (take (k + 1) refs))
    traced_more items refs k i r l m p q t one =
        let grown : take (k + 1) items ≡ take k items ++ i ∷ [] =
        take_more items k i l ∙ ap (λ y. take k items ++ y ∷ []) (sym p) in
        let more : take (k + 1) refs ≡ take k refs ++ r ∷ [] =
        take_more refs k r m ∙ ap (λ y. take k refs ++ y ∷ []) (sym q) in
        let viewed : map view (take (k + 1) refs) ≡ map view (take k refs) ++ view r ∷ [] =
        ap (map view) more ∙ map-append view (take k refs) (r ∷ []) in
        subst (λ is. AreTraced table is (map view (take (k + 1) refs))) (sym grown)
        (subst (AreTraced table (take k items ++ i ∷ [])) (sym viewed)
        (traced_push (take k items) (map view (take k refs)) i (view r) t one))

    -- each item of a list is like its figure
    pub traced_at : (items : List (Placed AnyShape)) (refs : List R) (k : ℕ) (i : Placed AnyShape)
        (r : R) → k < length items → k < length refs → i ≡ get_or items k i → r ≡ get_or refs k r
        → AreTraced table items (map view refs)
        → IsTraced table (any_outline i.shape) i.colour (view r)
    traced_at [] refs k i r l m p q t = absurd (omega arith)
    traced_at (j ∷ items) [] k i r l m p q t = absurd (omega arith)
    traced_at (j ∷ items) (s ∷ refs) zero i r l m p q t =
        let same : of_item j ∷ map of_item items ≡ of_figure (view s) ∷ map of_figure
        (map view refs) =
        t.same in
        let head : of_item j ≡ of_figure (view s) = cc in
        let first : IsTraced table (any_outline j.shape) j.colour (view s) = record {
          alike = record {
            form = ap (λ (x : Trace). x.0) head;
            place = ap (λ (x : Trace). x.1) head;
            lawful = All-head Lawful (view s) (map view refs) t.lawful;
          };
          colour = ap (λ (x : Trace). x.2) head;
        } in
        subst (λ (x : Placed AnyShape). IsTraced table (any_outline x.shape) x.colour (view r))
        (sym p)
        (subst (λ y. IsTraced table (any_outline j.shape) j.colour (view y)) (sym q) first)
    traced_at (j ∷ items) (s ∷ refs) (suc k) i r l m p q t =
        let same : of_item j ∷ map of_item items ≡ of_figure (view s) ∷ map of_figure
        (map view refs) =
        t.same in
        let rest : map of_item items ≡ map of_figure (map view refs) = cc in
        traced_at items refs k i r (omega arith) (omega arith) p q
        (record { same = rest; lawful = All-tail Lawful (view s) (map view refs) t.lawful })
