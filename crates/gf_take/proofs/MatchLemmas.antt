-- How the figures that are matched grow by one that is taken out of those that are left.
use Rattle.std.proofs.Common.{◌≡◌, ℕ, ◌+◌, ◌≤◌, ◌<◌, List, [], ◌∷◌, ◌++◌, zero, suc, map, length}
use Rattle.std.proofs.Common.{take, drop}
use Rattle.std.proofs.Common.{get_or, append_assoc, refl, sym, ap, subst, ◌∙◌, arith}
use Rattle.std.specs.Prelude.{All, Some, slice_get}
use Rattle.std.proofs.lemmas.List.{append-nil, map-append, take_all, take_more, drop-map, take-map}
use Rattle.std.proofs.lemmas.List.Elements.{All-head, All-nil, All-push, All-tail}
use Rattle.gf_shape.specs.declared.any_shape.AnyShape.{AnyShape}
use Rattle.gf_plane.specs.declared.colour.Rgb.{Rgb}
use Rattle.gf_shape.specs.declared.outline.Outline.{Outline}
use Rattle.gf_plane.specs.declared.point.Point.{Point}
use Rattle.gf_shape.specs.Outlines.{any_outline}
use Rattle.gf_shape.specs.ShapeLaws.{IsLawful}
use Rattle.gf_ops.specs.declared.op.Op.{Op}
use Rattle.gf_ops.specs.declared.change.Form.{Form}
use Rattle.gf_ops.specs.ValidHistory.{IsValid}
use Rattle.gf_versions.specs.declared.placed.Placed.{Placed}
use Rattle.gf_versions.specs.Ranking.{AreRanked}
use Rattle.gf_figures.specs.declared.figure.Figure.{Figure}
use Rattle.gf_figures.specs.Colours.{Table}
use Rattle.gf_figures.specs.DrawingColour.{figure_colour, from_front}
use Rattle.gf_figures.specs.DrawingState.{DrawingState}
use Rattle.gf_drawing.specs.CanonicalDrawing.{PaintsAsFig}
use Rattle.gf_take.specs.Matching.{AreMatched, AreShown, AreTraced, IsLikeAt, IsTraced}
use Rattle.gf_take.specs.Matching.{TakesLike, TakesNone, trace}
use Rattle.gf_take.specs.ShownDrawing.{CanSwap, IsReordered, LooksLike, ShowsDrawing, TakesOut}
use Rattle.gf_take.specs.ShownDrawing.{behind, first, next, none}
use Rattle.gf_take.proofs.AgainLemmas.{looks_traced_items}
use Rattle.gf_take.proofs.ExchangeLemmas.{none_passes}
use Rattle.gf_take.proofs.FrontLemmas.{order_paints}

module _ (table : Table) where
  abbrev of_item : Placed AnyShape → Form × Point × Rgb
  of_item i = trace (any_outline i.shape) i.colour

  abbrev of_figure : Figure Outline → Form × Point × Rgb
  of_figure f = trace f.shape (figure_colour table f)

  one_trace : (i : Placed AnyShape) (f : Figure Outline)
      → IsTraced table (any_outline i.shape) i.colour f → of_item i ≡ of_figure f
  one_trace i f t = λ k. (t.alike.form k, t.alike.place k, t.colour k)

  traced_push : (items : List (Placed AnyShape)) (fs : List (Figure Outline)) (i : Placed AnyShape)
      (f : Figure Outline) → AreTraced table items fs
      → IsTraced table (any_outline i.shape) i.colour f
      → AreTraced table (items ++ i ∷ []) (fs ++ f ∷ [])
  traced_push items fs i f t one = record {
    same = map-append of_item items (i ∷ [])
        ∙ (ap (λ l. l ++ of_item i ∷ []) t.same
        ∙ (ap (λ x. map of_figure fs ++ x ∷ []) (one_trace i f one)
        ∙ sym (map-append of_figure fs (f ∷ []))));
    lawful = All-push (λ (f : Figure Outline). IsLawful f.shape) fs f t.lawful one.alike.lawful;
  }

  taken_out : (before : List (Figure Outline)) (f : Figure Outline) (after : List (Figure Outline))
      → All (CanSwap table f) before → TakesOut table f (before ++ f ∷ after) (before ++ after)
  taken_out [] f after swaps = first
  taken_out (g ∷ before) f after swaps =
      behind g (All-head (CanSwap table f) g before swaps)
      (taken_out before f after (All-tail (CanSwap table f) g before swaps))

  pub like_out : (i : Placed AnyShape) (old new : List (Figure Outline))
      → (t : TakesLike table i old new) → TakesOut table t.figure old new
  like_out i old new t =
      subst (λ l. TakesOut table t.figure l new) (sym t.whole)
      (subst (λ l. TakesOut table t.figure (t.before ++ t.figure ∷ t.after) l) (sym t.left)
      (taken_out t.before t.figure t.after t.swaps))

  module _ (fs : List (Figure Outline)) where
    pub matched_none : AreMatched table fs [] fs
    matched_none = record {
      order = [];
      traced = record {
        same = refl;
        lawful = All-nil (λ (f : Figure Outline). IsLawful f.shape);
      };
      rest = λ others r. r;
    }

    pub matched_more : (items : List (Placed AnyShape)) (i : Placed AnyShape)
        (left new : List (Figure Outline)) → AreMatched table fs items left
        → TakesLike table i left new → AreMatched table fs (items ++ i ∷ []) new
    matched_more items i left new m t = record {
      order = m.order ++ t.figure ∷ [];
      traced = traced_push items m.order i t.figure m.traced t.traced;
      rest = λ others r. subst (IsReordered table fs)
          (sym (append_assoc m.order (t.figure ∷ []) others))
          (m.rest (t.figure ∷ others) (next t.figure (like_out i left new t) r));
    }

    pub matched_all : (items : List (Placed AnyShape)) → AreMatched table fs items []
        → AreShown table fs items
    matched_all items m = record {
      order = m.order;
      traced = m.traced;
      reordered = subst (IsReordered table fs) (append-nil m.order) (m.rest [] none);
    }

-- ---- figures by their places

-- a list about one of its places
split_at : {X : Type 0} (xs : List X) (k : ℕ) (x : X) → slice_get xs k ≡ Some x
    → xs ≡ take k xs ++ x ∷ drop (suc k) xs
split_at [] k x e = absurd cc
split_at (y ∷ xs) zero x e = let same : y ≡ x = cc in ap (λ z. z ∷ xs) same
split_at (y ∷ xs) (suc k) x e = ap (λ l. y ∷ l) (split_at xs k x e)

pub no_items : {X : Type 0} (xs : List X) → length xs ≡ 0 → xs ≡ []
no_items [] e = refl
no_items (x ∷ xs) e = absurd (omega arith)

pub none_viewed : {R X : Type 0} (view : R → X) (refs : List R) → map view refs ≡ []
    → length refs ≡ 0
none_viewed view [] e = refl
none_viewed view (r ∷ refs) e = absurd cc

module _ {R X : Type 0} (view : R → X) where
  pub map_get : (refs : List R) (k : ℕ) (r : R) → k < length refs → r ≡ get_or refs k r
      → slice_get (map view refs) k ≡ Some (view r)
  map_get [] k r l e = absurd (omega arith)
  map_get (s ∷ refs) zero r l e = ap (λ x. Some (view x)) (sym e)
  map_get (s ∷ refs) (suc k) r l e = map_get refs k r (omega arith) e

  -- the list without one of its places
  map_without : (refs : List R) (k : ℕ) → map view (take k refs ++ drop (suc k) refs)
      ≡ take k (map view refs) ++ drop (suc k) (map view refs)
  map_without refs k =
      map-append view (take k refs) (drop (suc k) refs)
      ∙ (λ i. sym (take-map view k refs) i ++ sym (drop-map view (suc k) refs) i)

  module _ (P : X → Type 0) (refs : List R) where
    pub seen_none : All P (map view (take 0 refs))
    seen_none = All-nil P

    pub seen_more : (k : ℕ) (r : R) → k < length refs → r ≡ get_or refs k r
        → All P (map view (take k refs)) → P (view r) → All P (map view (take (k + 1) refs))
    seen_more k r l e all one =
        let grown : take (k + 1) refs ≡ take k refs ++ r ∷ [] =
        take_more refs k r l ∙ ap (λ y. take k refs ++ y ∷ []) (sym e) in
        subst (All P) (sym (ap (map view) grown ∙ map-append view (take k refs) (r ∷ [])))
        (All-push P (map view (take k refs)) (view r) all one)

    pub seen_all : (k : ℕ) → length refs ≤ k → All P (map view (take k refs))
        → All P (map view refs)
    seen_all k l all = subst (λ rs. All P (map view rs)) (take_all k refs l) all

    pub seen_not : (k : ℕ) (r : R) → k < length refs → r ≡ get_or refs k r → ¬ (P (view r))
        → ¬ (All P (map view refs))
    seen_not k r l e other all =
        let parts = subst (All P) (split_at (map view refs) k (view r) (map_get refs k r l e)) all
        in
        other (at_middle (take k (map view refs)) (view r) (drop (suc k) (map view refs)) parts)
      where
        at_middle : (before : List X) (x : X) (after : List X) → All P (before ++ x ∷ after) → P x
        at_middle [] x after q = All-head P x after q
        at_middle (y ∷ before) x after q =
            at_middle before x after (All-tail P y (before ++ x ∷ after) q)

-- the first figure of a look
pub like_found : {R : Type 0} (view : R → Figure Outline) (table : Table) (o : Outline) (c : Rgb)
    (refs : List R) (k : ℕ) (r : R) → k < length refs → r ≡ get_or refs k r
    → IsTraced table o c (view r)
    → All (λ f. ¬ (IsTraced table o c f)) (map view (take k refs))
    → IsLikeAt table o c (map view refs) k
like_found view table o c refs k r l e traced unlike = record {
  figure = view r;
  at = map_get view refs k r l e;
  traced = traced;
  unlike = subst (All (λ f. ¬ (IsTraced table o c f))) (sym (take-map view k refs)) unlike;
}

-- ---- one figure taken out

module _ {R : Type 0} (view : R → Figure Outline) (table : Table) (i : Placed AnyShape)
    (o : Outline) (is : o ≡ any_outline i.shape) (refs : List R) (k : ℕ)
    (like : IsLikeAt table o i.colour (map view refs) k) (r : R) (within : k < length refs)
    (item : r ≡ get_or refs k r) where
  same_figure : view r ≡ like.figure
  same_figure =
      let e : Some (view r) ≡ Some like.figure =
      sym (map_get view refs k r within item) ∙ like.at in cc

  pub takes_like : (new : List R) → new ≡ take k refs ++ drop (suc k) refs
      → All (CanSwap table (view r)) (map view (take k refs))
      → TakesLike table i (map view refs) (map view new)
  takes_like new e swaps = record {
    before = take k (map view refs);
    figure = like.figure;
    after = drop (suc k) (map view refs);
    whole = split_at (map view refs) k like.figure like.at;
    left = ap (map view) e ∙ map_without view refs k;
    traced = subst (λ o. IsTraced table o i.colour like.figure) is like.traced;
    swaps = subst (λ f. All (CanSwap table f) (take k (map view refs))) same_figure
        (subst (All (CanSwap table (view r))) (sym (take-map view k refs)) swaps);
    unlike = subst (λ o. All (λ f. ¬ (IsTraced table o i.colour f)) (take k (map view refs))) is
        like.unlike;
  }

  pub takes_none : ¬ (All (CanSwap table (view r)) (map view (take k refs)))
      → TakesNone table i (map view refs)
  takes_none stuck g rest t out =
      none_passes table (any_outline i.shape) i.colour (take k (map view refs)) like.figure
      (drop (suc k) (map view refs))
      (subst (λ o. All (λ f. ¬ (IsTraced table o i.colour f)) (take k (map view refs))) is
      like.unlike)
      (subst (λ o. IsTraced table o i.colour like.figure) is like.traced)
      (λ all. stuck (subst (All (CanSwap table (view r))) (take-map view k refs)
      (subst (λ f. All (CanSwap table f) (take k (map view refs))) (sym same_figure) all)))
      g rest t
      (subst (λ l. TakesOut table g l rest) (split_at (map view refs) k like.figure like.at) out)

-- ---- what the site then shows

module _ (h : List Op) (d : DrawingState Outline) (items : List (Placed AnyShape))
    (valid : IsValid h) (ranked : AreRanked h items)
    (shown : AreShown d.table (from_front d.figures) items) where
  pub shown_drawing : ShowsDrawing h d
  shown_drawing = record {
    items = items;
    ranked = ranked;
    order = shown.order;
    reordered = shown.reordered;
    same = looks_traced_items h d.table items shown.order valid ranked shown.traced;
  }

  pub shown_colours : PaintsAsFig h d
  shown_colours =
      order_paints h d items shown.order ranked shown.traced.lawful shown.reordered
      (looks_traced_items h d.table items shown.order valid ranked shown.traced)

-- ranked versions of a valid history that become what a drawing's figures become look like it
pub traced_look : (h : List Op) (d : DrawingState Outline) (items : List (Placed AnyShape))
    → IsValid h → AreRanked h items → AreTraced d.table items (from_front d.figures)
    → LooksLike h d
traced_look h d items valid ranked t = record {
  items = items;
  ranked = ranked;
  same = looks_traced_items h d.table items (from_front d.figures) valid ranked t;
}
