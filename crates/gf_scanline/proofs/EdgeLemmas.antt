-- Edges between two heights meet each row there as all edges do.
use Rattle.std.specs.Prelude.{◌≡◌, ◌≤ℤ◌, ℤ, Bool, true, false, cond, int_le, List, [], ◌∷◌, length}
use Rattle.std.specs.Prelude.{refl, All, IsTrue, pos, take, drop, ◌-◌}
use Rattle.std.specs.List.{list_any}
use Rattle.std.specs.Ordering.{int_eq}
use Rattle.std.proofs.Common.{arith, ap, sym, inl, inr, get_or, ◌∙◌}
use Rattle.std.proofs.lemmas.Bool.{cases_Bool}
use Rattle.std.proofs.lemmas.Int.{ints}
use Rattle.gf_spans.specs.declared.span.Span.{Span}
use Rattle.gf_spans.specs.Spans.{is_empty}
use Rattle.gf_spans.specs.Joining.{IsJoined}
use Rattle.gf_plane.specs.declared.point.Point.{Point}
use Rattle.gf_shape.specs.FigureMeaning.{chain_holds}
use Rattle.gf_shape.specs.Ring.{IsRing, Ring}
use Rattle.gf_shape.proofs.RowShapes.{end_of-ring}
use Rattle.gf_shape.specs.RowParts.{contacts_along, contacts_of, crossings_along, crossings_of}
use Rattle.gf_shape.specs.RowParts.{end_of}
use Rattle.gf_shape.specs.Rows.{IsRow}
use Rattle.std.proofs.lemmas.Grind.{flat_map-append}
use Rattle.std.proofs.lemmas.List.{append-nil, take_all}
use Rattle.std.proofs.lemmas.List.Elements.{All-append, All-cons, All-drop, All-nil}
use Rattle.gf_plane.specs.Reach.{is_within_reach}
use Rattle.gf_spans.proofs.PairLemmas.{any_append}
use Rattle.gf_shape.proofs.RowPaths.{closed_parity, full_contacts_of, path_crosses, path_edges}
use Rattle.gf_scanline.specs.declared.edge.Edge.{Edge}
use Rattle.gf_scanline.specs.Between.{IsWithinReach, between_along, between_of, comes_between}
use Rattle.gf_scanline.specs.Between.{comes_from, comes_upto}
use Rattle.gf_scanline.specs.Telling.{TellsRow, contacts_at, crossings_at}

-- a height that neither end of an edge is at, nor both on different sides of, is not met
missed : (y : ℤ) (a b : Point) (m : Bool) → int_le a.y y ≡ m → int_le b.y y ≡ m
    → int_eq a.y y ≡ false → int_eq b.y y ≡ false
    → (crossings_of y (a, b) ≡ []) × (contacts_of y (a, b) ≡ [])
missed y a b true e f g h = (rw (e, f) refl, rw (e, f, g, h) refl)
missed y a b false e f g h = (rw (e, f) refl, rw (e, f, g, h) refl)

abbrev pub origin : Point
origin = record { x = pos 0; y = pos 0 }

module _ (low high y : ℤ) (from : low ≤ℤ y) (upto : y ≤ℤ high) where
  -- an edge beside the heights meets no row between them
  beside : (e : Edge) → comes_between low high e ≡ false → (crossings_of y (e.from, e.to) ≡ [])
      × (contacts_of y (e.from, e.to) ≡ [])
  beside e h = elim (cases_Bool (comes_from low e)) [
    | inl t ↦ past (rw t at h)
    | inr t ↦ before t
  ]
    where
      past : comes_upto high e ≡ false → (crossings_of y (e.from, e.to) ≡ [])
          × (contacts_of y (e.from, e.to) ≡ [])
      past t = missed y e.from e.to false (grind (arith, ints)) (grind (arith, ints))
          (grind (arith, ints)) (grind (arith, ints))

      before : comes_from low e ≡ false → (crossings_of y (e.from, e.to) ≡ [])
          × (contacts_of y (e.from, e.to) ≡ [])
      before t = missed y e.from e.to true (grind (arith, ints)) (grind (arith, ints))
          (grind (arith, ints)) (grind (arith, ints))

  -- what an edge gives
  kept : (e : Edge) → (crossings_at y (between_of low high e) ≡ crossings_of y (e.from, e.to))
      × (contacts_at y (between_of low high e) ≡ contacts_of y (e.from, e.to))
  kept e = elim (cases_Bool (comes_between low high e)) [
    | inl h ↦ (
      rw h (append-nil (crossings_of y (e.from, e.to))),
      rw h (append-nil (contacts_of y (e.from, e.to))),
    )
    | inr h ↦ (rw h (sym (beside e h).0), rw h (sym (beside e h).1))
  ]

  -- the edges that come between the heights meet a row there as all edges do
  pub met_alike : (a : Point) (ps : List Point)
      → (crossings_at y (between_along low high a ps) ≡ crossings_along y a ps)
      × (contacts_at y (between_along low high a ps) ≡ contacts_along y a ps)
  met_alike a [] = (refl, refl)
  met_alike a (b ∷ ps) =
      let e : Edge = record { from = a; to = b } in
      let one = kept e in
      let rest = met_alike b ps in (
        flat_map-append (λ e. crossings_of y (e.from, e.to)) (between_of low high e)
            (between_along low high b ps) ∙ rw (one.0, rest.0) refl,
        flat_map-append (λ e. contacts_of y (e.from, e.to)) (between_of low high e)
            (between_along low high b ps) ∙ rw (one.1, rest.1) refl,
      )

  -- the edges of a closed path that come between the heights tell its row
  pub closed_tells : (a : Point) (ps : List Point) → end_of a ps ≡ a
      → TellsRow (chain_holds (a ∷ ps)) y (between_along low high a ps)
  closed_tells a ps e =
      let same = met_alike a ps in
      record {
        even = rw same.0 (closed_parity y a ps e);
        exact = λ x. rw (same.0, same.1)
            (sym (rw (path_edges x y a ps, path_crosses x y a ps) refl));
      }

  -- the edges of a ring that come between the heights tell its row
  pub ring_tells : (r : Ring) (ps : List Point) → IsRing r → ps ≡ r.points
      → TellsRow (chain_holds ps) y
      (between_along low high (get_or ps 0 origin) (take (length ps - 1) (drop 1 ps)))
  ring_tells r [] h e = absurd (let l = h.least in omega (arith, ap length e))
  ring_tells r (a ∷ ps) h e =
      let back : length (a ∷ ps) - 1 ≡ length ps = omega arith in
      let whole : take (length (a ∷ ps) - 1) ps ≡ ps = rw back
      (take_all (length ps) ps (omega arith)) in
      let ends : end_of a (take (length (a ∷ ps) - 1) ps) ≡ a = end_of-ring r a (a ∷ ps) h
      (rw (← e) refl) e in
      rw whole (closed_tells a ps (rw whole at ends))

-- no contact of edges is empty
pub none_empty : (y : ℤ) (es : List Edge) → list_any is_empty (contacts_at y es) ≡ false
none_empty y [] = refl
none_empty y (e ∷ es) = any_append is_empty (contacts_of y (e.from, e.to)) (contacts_at y es) ∙ rw (
  full_contacts_of y e.from e.to,
  none_empty y es,
) refl

-- what they enclose is the row that they tell
pub told : (holds : Point → Bool) (y : ℤ) (es : List Edge) (ss : List Span)
    → IsJoined (crossings_at y es) (contacts_at y es) ss → TellsRow holds y es → IsRow holds y ss
told holds y es ss joined tells = record {
  exact = λ x. joined.exact x ∙ tells.exact x;
  apart = joined.apart;
}

-- the edges that come between the heights lie within reach
pub reached_along : (low high : ℤ) (a : Point) (ps : List Point) → IsTrue (is_within_reach a)
    → All (λ p. IsTrue (is_within_reach p)) ps → All IsWithinReach (between_along low high a ps)
reached_along low high a [] h hs = All-nil IsWithinReach
reached_along low high a (b ∷ ps) h hs =
    let next : IsTrue (is_within_reach b) = hs 0 b (omega arith) in
    let rest : All (λ p. IsTrue (is_within_reach p)) ps = All-drop (λ p. IsTrue (is_within_reach p))
    1 (b ∷ ps) hs in
    All-append IsWithinReach (between_of low high (record { from = a; to = b }))
    (between_along low high b ps) (one (record { from = a; to = b }) (h, next))
    (reached_along low high b ps next rest)
  where
    one : (e : Edge) → IsWithinReach e → All IsWithinReach (between_of low high e)
    one e h = pick (comes_between low high e)
      where
        pick : (b : Bool) → All IsWithinReach (cond b (e ∷ []) [])
        pick true = All-cons IsWithinReach e [] h (All-nil IsWithinReach)
        pick false = All-nil IsWithinReach
