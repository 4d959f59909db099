-- What a figure becomes holds what the figure holds.
use Rattle.std.proofs.Common.{◌≡◌, ℕ, suc, ◌-◌, ◌≤◌, List, [], ◌∷◌, ◌++◌, map, length, take, refl}
use Rattle.std.proofs.Common.{sym, ap, subst, ◌∙◌, inl, inr, arith}
use Rattle.std.specs.Prelude.{Some, slice_get}
use Rattle.std.proofs.lemmas.Bool.{and_parts, cases_Bool}
use Rattle.gf_shape.specs.declared.outline.Outline.{Outline}
use Rattle.gf_shape.specs.declared.outline.Outline.TheVariants.{Chain, Disc, Oval}
use Rattle.gf_plane.specs.declared.point.Point.{Point}
use Rattle.gf_shape.specs.FigureMeaning.{chain_holds, outline_holds}
use Rattle.gf_plane.specs.Moving.{minus, plus}
use Rattle.gf_shape.specs.Opened.{opened}
use Rattle.gf_shape.specs.Ring.{Ring, IsRing}
use Rattle.gf_shape.specs.ShapeLaws.{IsLawful}
use Rattle.gf_shape.specs.ShapeMeaning.{polygon_holds}
use Rattle.gf_shape.specs.ShapeMoves.{points_moved}
use Rattle.gf_shape.specs.Laws.Moved.{plus-minus, polygon_holds-moved}
use Rattle.gf_shape.specs.Laws.Parity.{polygon_holds_as_chain}
use Rattle.gf_versions.specs.Visible.{form_holds}
use Rattle.gf_objects.specs.Boxes.{are_corners, is_box, point_at}
use Rattle.gf_objects.specs.Objects.{form_of, place_of, seen_from}
use Rattle.gf_objects.specs.Places.{polygon_place}
use Rattle.gf_objects.proofs.CornerLemmas.{corners_hold}

-- a list whose last element is z is its front with z behind it
last_again : {X : Type 0} (x : X) (xs : List X) (z : X) → slice_get (x ∷ xs) (length xs) ≡ Some z
    → take (length xs) (x ∷ xs) ++ z ∷ [] ≡ x ∷ xs
last_again x [] z e = let same : x ≡ z = cc in ap (λ y. y ∷ []) (sym same)
last_again x (y ∷ ys) z e = ap (λ l. x ∷ l) (last_again y ys z e)

less_one : (n : ℕ) → suc n - 1 ≡ n
less_one n = omega arith

-- a chain is its points but the last one, with the first one again at the end
ring_again : (ps : List Point) → 4 ≤ length ps → slice_get ps (length ps - 1) ≡ slice_get ps 0
    → opened ps ++ take 1 (opened ps) ≡ ps
ring_again [] l e = absurd (omega arith)
ring_again (a ∷ []) l e = absurd (omega arith)
ring_again (a ∷ b ∷ ps) l e =
    let n : length (a ∷ b ∷ ps) - 1 ≡ length (b ∷ ps) = less_one (length (b ∷ ps)) in
    let last : slice_get (a ∷ b ∷ ps) (length (b ∷ ps))
    ≡ Some a = subst (λ k. slice_get (a ∷ b ∷ ps) k ≡ Some a) n e in
    subst (λ k. take k (a ∷ b ∷ ps) ++ take 1 (take k (a ∷ b ∷ ps)) ≡ a ∷ b ∷ ps) (sym n)
    (last_again a (b ∷ ps) a last)

points_back : (o : Point) (ps : List Point) → points_moved (map (λ p. minus p o) ps) o ≡ ps
points_back o [] = refl
points_back o (p ∷ ps) = let first = plus-minus p o in let rest = points_back o ps in
    λ i. first i ∷ rest i

-- a polygon of points seen from o holds what the polygon of these points holds
polygon_seen : (o : Point) (ps : List Point) (p : Point)
    → polygon_holds (map (λ q. minus q o) ps) (minus p o) ≡ polygon_holds ps p
polygon_seen o ps p =
    sym (polygon_holds-moved (map (λ q. minus q o) ps) o (minus p o))
    ∙ (ap (λ qs. polygon_holds qs (plus (minus p o) o)) (points_back o ps)
    ∙ ap (polygon_holds ps) (plus-minus p o))

-- the polygon that a chain becomes
chain_as_polygon : (o : Point) (ring : Ring) (p : Point) → IsRing ring
    → polygon_holds (seen_from o ring.points) (minus p o) ≡ chain_holds ring.points p
chain_as_polygon o ring p lawful =
    polygon_seen o (opened ring.points) p
    ∙ (polygon_holds_as_chain (opened ring.points) p
    ∙ ap (λ qs. chain_holds qs p) (ring_again ring.points lawful.least lawful.closed))

five_points : (ps : List Point) → length ps ≡ 5 → slice_get ps (length ps - 1) ≡ slice_get ps 0 → ps
    ≡ point_at ps 0 ∷ point_at ps 1 ∷ point_at ps 2 ∷ point_at ps 3 ∷ point_at ps 0 ∷ []
five_points (a ∷ b ∷ c ∷ d ∷ e ∷ []) l k = let same : e ≡ a = cc in
    ap (λ z. a ∷ b ∷ c ∷ d ∷ z ∷ []) same
five_points ps l k = absurd (omega (arith, l))

-- what an outline becomes holds, from its place, what the outline holds
pub form_holds-outline : (o : Outline) (p : Point) → IsLawful o
    → form_holds (form_of o) (minus p (place_of o)) ≡ outline_holds o p
form_holds-outline (Disc disc) p lawful = refl
form_holds-outline (Oval oval) p lawful = refl
form_holds-outline (Chain ring) p lawful = elim (cases_Bool (is_box ring)) [
  | inl t ↦
      let a = point_at ring.points 0 in
      let b = point_at ring.points 1 in
      let c = point_at ring.points 2 in
      let d = point_at ring.points 3 in
      let parts = and_parts ring.boxed (are_corners a b c d) t in
      let points = five_points ring.points (lawful.box parts.0) lawful.closed in
      rw t (sym (corners_hold a b c d p parts.1) ∙ ap (λ qs. chain_holds qs p) (sym points))
  | inr f ↦ rw f (chain_as_polygon (polygon_place ring.points) ring p lawful)
]
