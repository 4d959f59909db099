-- Taking the first figure that looks like a version loses nothing: where figures can be reordered
-- to look like versions, what is left can be reordered to look like the other versions.
use Rattle.std.proofs.Common.{◌≡◌, List, [], ◌∷◌, ◌++◌, map, refl, sym, ap, subst, ◌∙◌, inl, inr}
use Rattle.std.specs.Prelude.{All, ◌⊎◌}
use Rattle.std.proofs.lemmas.List.Elements.{All-cons, All-head, All-nil, All-tail}
use Rattle.std.proofs.lemmas.List.Elements.{All-weaker}
use Rattle.gf_shape.specs.declared.any_shape.AnyShape.{AnyShape}
use Rattle.gf_plane.specs.declared.colour.Rgb.{Rgb}
use Rattle.gf_shape.specs.declared.outline.Outline.{Outline}
use Rattle.gf_plane.specs.declared.point.Point.{Point}
use Rattle.gf_shape.specs.Outlines.{any_outline}
use Rattle.gf_shape.specs.ShapeLaws.{IsLawful}
use Rattle.gf_ops.specs.declared.change.Form.{Form}
use Rattle.gf_versions.specs.declared.placed.Placed.{Placed}
use Rattle.gf_figures.specs.declared.figure.Figure.{Figure}
use Rattle.gf_figures.specs.Colours.{Table}
use Rattle.gf_figures.specs.DrawingColour.{figure_colour}
use Rattle.gf_take.specs.Matching.{AreShown, AreTraced, IsTraced, TakesLike, TakesNone, trace}
use Rattle.gf_take.specs.ShownDrawing.{CanSwap, IsReordered, TakesOut, behind, first, next}
use Rattle.gf_take.specs.ShownDrawing.{none}
use Rattle.gf_take.proofs.FrontLemmas.{All-taken}
use Rattle.gf_take.proofs.MovedLemmas.{AreAlike, IsMoved, both, both_like}
use Rattle.gf_take.proofs.MovedLemmas.{moved}
use Rattle.gf_take.proofs.MovedLemmas.{moved_reorders, no_more, passed, swap_alike}

module _ (table : Table) where
  -- ---- the first figure of a look

  module _ (o : Outline) (c : Rgb) where
    abbrev Like : Figure Outline → Type 0
    Like f = IsTraced table o c f

    abbrev Unlike : Figure Outline → Type 0
    Unlike f = ¬ (IsTraced table o c f)

    -- another one of this look that is taken out is the first, or leaves the first moved
    beside : (before : List (Figure Outline)) (f : Figure Outline) (after : List (Figure Outline))
        (g : Figure Outline) (rest : List (Figure Outline)) → All Unlike before → Like g
        → TakesOut table g (before ++ f ∷ after) rest
        → ((g ≡ f) × (rest ≡ before ++ after)) ⊎ IsMoved table f g rest (before ++ after)
    beside [] f after g rest unlike like first = inl (refl, refl)
    beside [] f after g rest unlike like (behind x u out) = inr (moved out)
    beside (h ∷ before) f after g rest unlike like first =
        absurd (All-head Unlike h before unlike like)
    beside (h ∷ before) f after g rest unlike like (behind {rest = more} x u out) =
        elim (beside before f after g more (All-tail Unlike h before unlike) like out) [
          | inl w ↦ inl (w.0, ap (λ l. h ∷ l) w.1)
          | inr w ↦ inr (passed h w)
        ]

    -- it can be swapped with all before the first
    passes_before : (before : List (Figure Outline)) (f : Figure Outline)
        (after : List (Figure Outline)) (g : Figure Outline) (rest : List (Figure Outline))
        → All Unlike before → Like g → TakesOut table g (before ++ f ∷ after) rest
        → All (CanSwap table g) before
    passes_before [] f after g rest unlike like out = All-nil (CanSwap table g)
    passes_before (h ∷ before) f after g rest unlike like first =
        absurd (All-head Unlike h before unlike like)
    passes_before (h ∷ before) f after g rest unlike like (behind {rest = more} x u out) =
        All-cons (CanSwap table g) h before u
        (passes_before before f after g more (All-tail Unlike h before unlike) like out)

    -- where the first cannot be swapped with all before it, none can be taken out
    pub none_passes : (before : List (Figure Outline)) (f : Figure Outline)
        (after : List (Figure Outline)) → All Unlike before → Like f
        → ¬ (All (CanSwap table f) before) → (g : Figure Outline) (rest : List (Figure Outline))
        → Like g → ¬ (TakesOut table g (before ++ f ∷ after) rest)
    none_passes before f after unlike like stuck g rest t out =
        stuck (All-weaker (CanSwap table g) (CanSwap table f)
        (λ x u. swap_alike table g f x (both_like table o c g f t like) u) before
        (passes_before before f after g rest unlike t out))

    pub none_like : (figures : List (Figure Outline)) → All Unlike figures → (g : Figure Outline)
        (rest : List (Figure Outline)) → Like g → ¬ (TakesOut table g figures rest)
    none_like figures unlike g rest t out = (All-taken Unlike table g figures rest out unlike).0 t

  -- ---- versions in turn

  abbrev of_item : Placed AnyShape → Form × Point × Rgb
  of_item i = trace (any_outline i.shape) i.colour

  abbrev of_figure : Figure Outline → Form × Point × Rgb
  of_figure f = trace f.shape (figure_colour table f)

  -- the first of both
  head_traced : (i : Placed AnyShape) (items : List (Placed AnyShape)) (f : Figure Outline)
      (fs : List (Figure Outline)) → AreTraced table (i ∷ items) (f ∷ fs)
      → IsTraced table (any_outline i.shape) i.colour f
  head_traced i items f fs t =
      let same : of_item i ≡ of_figure f =
      let e = t.same in cc in
      record {
        alike = record {
          form = ap (λ (x : Form × Point × Rgb). x.0) same;
          place = ap (λ (x : Form × Point × Rgb). x.1) same;
          lawful = All-head (λ (g : Figure Outline). IsLawful g.shape) f fs t.lawful;
        };
        colour = ap (λ (x : Form × Point × Rgb). x.2) same;
      }

  abbrev behind_first : List (Form × Point × Rgb) → List (Form × Point × Rgb)
  behind_first [] = []
  behind_first (x ∷ xs) = xs

  tail_traced : (i : Placed AnyShape) (items : List (Placed AnyShape)) (f : Figure Outline)
      (fs : List (Figure Outline)) → AreTraced table (i ∷ items) (f ∷ fs) → AreTraced table items fs
  tail_traced i items f fs t = record {
    same = ap behind_first t.same;
    lawful = All-tail (λ (g : Figure Outline). IsLawful g.shape) f fs t.lawful;
  }

  alike_lawful : (fs gs : List (Figure Outline)) → AreAlike table fs gs
      → All (λ (x : Figure Outline). IsLawful x.shape) gs
  alike_lawful fs gs no_more = All-nil (λ (x : Figure Outline). IsLawful x.shape)
  alike_lawful fs gs (both {fs = ks} {gs = hs} f g a more) =
      All-cons (λ (x : Figure Outline). IsLawful x.shape) g hs a.others (alike_lawful ks hs more)

  alike_same : (fs gs : List (Figure Outline)) → AreAlike table fs gs
      → map of_figure fs ≡ map of_figure gs
  alike_same fs gs no_more = refl
  alike_same fs gs (both {fs = ks} {gs = hs} f g a more) =
      let rest = alike_same ks hs more in λ k. (a.form k, a.place k, a.colour k) ∷ rest k

  -- taking the first figure like a version leaves what shows the others
  shown_step : (i : Placed AnyShape) (items : List (Placed AnyShape))
      (old new order : List (Figure Outline)) → TakesLike table i old new
      → AreTraced table (i ∷ items) order → IsReordered table old order → AreShown table new items
  shown_step i items old new none_left t traced none = let e = traced.same in absurd cc
  shown_step i items old new whole t traced (next {rest = rest} {order = order} g out more) =
      let like = head_traced i items g order traced in
      let others = tail_traced i items g order traced in
      let moved = beside (any_outline i.shape) i.colour t.before t.figure t.after g rest t.unlike
      like
      (subst (λ l. TakesOut table g l rest) t.whole out) in
      elim moved [
        | inl w ↦ record {
          order = order;
          traced = others;
          reordered = subst (λ l. IsReordered table l order) (w.1 ∙ sym t.left) more;
        }
        | inr w ↦
            let alike = both_like table (any_outline i.shape) i.colour t.figure g t.traced like in
            let r = moved_reorders table t.figure g alike rest new order
            (subst (IsMoved table t.figure g rest) (sym t.left) w) others.lawful more in
            record {
              order = r.order;
              traced = record {
                same = others.same ∙ alike_same order r.order r.alike;
                lawful = alike_lawful order r.order r.alike;
              };
              reordered = r.reordered;
            }
      ]

  pub shown_rest : (i : Placed AnyShape) (items : List (Placed AnyShape))
      (old new : List (Figure Outline)) → TakesLike table i old new
      → AreShown table old (i ∷ items) → AreShown table new items
  shown_rest i items old new t s = shown_step i items old new s.order t s.traced s.reordered

  none_taken : (i : Placed AnyShape) (items : List (Placed AnyShape))
      (old order : List (Figure Outline)) → TakesNone table i old
      → AreTraced table (i ∷ items) order → ¬ (IsReordered table old order)
  none_taken i items old none_left t traced none = let e = traced.same in absurd cc
  none_taken i items old whole t traced (next {rest = rest} {order = order} g out more) =
      t g rest (head_traced i items g order traced) out

  pub not_shown : (i : Placed AnyShape) (items : List (Placed AnyShape))
      (old : List (Figure Outline)) → TakesNone table i old → ¬ (AreShown table old (i ∷ items))
  not_shown i items old t s = none_taken i items old s.order t s.traced s.reordered

  all_reordered : (old order : List (Figure Outline)) → AreTraced table [] order
      → IsReordered table old order → old ≡ []
  all_reordered old order traced none = refl
  all_reordered old order traced (next f out more) = let e = traced.same in absurd cc

  pub all_shown : (old : List (Figure Outline)) → AreShown table old [] → old ≡ []
  all_shown old s = all_reordered old s.order s.traced s.reordered
