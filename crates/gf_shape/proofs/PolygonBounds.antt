-- The least box round the points of a polygon is the bounds of what it holds.
use Rattle.std.specs.Prelude.{◌≡◌, zero, suc, Bool, IsTrue, List, [], ◌∷◌, ◌⊎◌, map, fold, All}
use Rattle.std.specs.Prelude.{Contains, ℤ, ◌≤ℤ◌, refl}
use Rattle.std.specs.Int.{int_min, int_max}
use Rattle.std.proofs.Common.{arith, sym, inl, inr}
use Rattle.std.proofs.lemmas.Int.{fold-int_min_bounds, fold-int_min_reached, fold-int_max_bounds}
use Rattle.std.proofs.lemmas.Int.{fold-int_max_reached}
use Rattle.std.proofs.lemmas.List.Folds.{fold-map}
use Rattle.std.proofs.lemmas.List.Elements.{All-nil, All-cons, All-head, All-tail}
use Rattle.std.proofs.lemmas.List.Elements.{Contains-append_right}
use Rattle.gf_shape.specs.declared.bounds.Bounds.{Bounds}
use Rattle.gf_plane.specs.declared.point.Point.{Point}
use Rattle.gf_shape.specs.ShapeMeaning.{polygon_holds}
use Rattle.gf_shape.specs.BoundsOf.{bounds_at, bounds_from, with}
use Rattle.gf_shape.specs.ShapeLaws.{IsBounds, Touches}
use Rattle.gf_shape.proofs.BoundsLemmas.{polygon_holds-left, polygon_holds-right, polygon_holds-top}
use Rattle.gf_shape.proofs.BoundsLemmas.{polygon_holds-bottom, polygon_holds-point}

pub All-from_map : {X Y : Type 0} (P : X → Type 0) (f : Y → X) (ys : List Y) → All P (map f ys)
    → All (λ y. P (f y)) ys
All-from_map P f [] h = All-nil (λ y. P (f y))
All-from_map P f (y ∷ ys) h =
    All-cons (λ y. P (f y)) y ys (All-head P (f y) (map f ys) h)
    (All-from_map P f ys (All-tail P (f y) (map f ys) h))

Contains-from_map : {X Y : Type 0} (f : Y → X) (ys : List Y) (x : X) → Contains (map f ys) x
    → (y : Y) × Contains ys y × (f y ≡ x)
Contains-from_map f [] x (k, h, e) = absurd (omega arith)
Contains-from_map f (y ∷ ys) x (zero, h, e) = (y, (zero, omega arith, refl), e)
Contains-from_map f (y ∷ ys) x (suc k, h, e) =
    let r = Contains-from_map f ys x (k, omega arith, e) in
    (r.0, Contains-append_right (y ∷ []) ys r.0 r.1, r.2)

-- a bound of the numbers of a list bounds the places of the points
All-places : (Q : ℤ → Type 0) (place : Point → ℤ) (a : Point) (ps : List Point) → Q (place a)
    → All Q (map place ps) → All (λ q. Q (place q)) (a ∷ ps)
All-places Q place a ps h l = All-cons (λ q. Q (place q)) a ps h (All-from_map Q place ps l)

module _ (holds : Point → Bool) (place : Point → ℤ) (a : Point) (ps : List Point)
    (held : (q : Point) → Contains (a ∷ ps) q → IsTrue (holds q)) where
  Touches-reached : (r : ℤ) → (r ≡ place a) ⊎ Contains (map place ps) r → Touches holds place r
  Touches-reached r (inl e) = (a, held a (zero, omega arith, refl), sym e)
  Touches-reached r (inr c) =
      let f = Contains-from_map place ps r c in
      (f.0, held f.0 (Contains-append_right (a ∷ []) ps f.0 f.1), f.2)

-- the least and the greatest place of the points bound each place, and are reached
module _ (place : Point → ℤ) (a : Point) (ps : List Point) where
  least_bounds : All (λ q. fold (λ m p. int_min m (place p)) (place a) ps ≤ℤ place q) (a ∷ ps)
  least_bounds =
      let b = fold-int_min_bounds (place a) (map place ps) _
      (sym (fold-map int_min place (place a) ps)) in
      All-places (λ n. fold (λ m p. int_min m (place p)) (place a) ps ≤ℤ n) place a ps b.0 b.1

  most_bounds : All (λ q. place q ≤ℤ fold (λ m p. int_max m (place p)) (place a) ps) (a ∷ ps)
  most_bounds =
      let b = fold-int_max_bounds (place a) (map place ps) _
      (sym (fold-map int_max place (place a) ps)) in
      All-places (λ n. n ≤ℤ fold (λ m p. int_max m (place p)) (place a) ps) place a ps b.0 b.1

  Touches-least : Touches (polygon_holds (a ∷ ps)) place
      (fold (λ m p. int_min m (place p)) (place a) ps)
  Touches-least =
      Touches-reached (polygon_holds (a ∷ ps)) place a ps (polygon_holds-point (a ∷ ps)) _
      (fold-int_min_reached (place a) (map place ps) _ (sym (fold-map int_min place (place a) ps)))

  Touches-most : Touches (polygon_holds (a ∷ ps)) place
      (fold (λ m p. int_max m (place p)) (place a) ps)
  Touches-most =
      Touches-reached (polygon_holds (a ∷ ps)) place a ps (polygon_holds-point (a ∷ ps)) _
      (fold-int_max_reached (place a) (map place ps) _ (sym (fold-map int_max place (place a) ps)))

-- each side of the bounds is the least or the greatest of the points by one coordinate
left_from : (b : Bounds) (ps : List Point) → (fold with b ps).low.x ≡ fold (λ m p. int_min m p.x)
    b.low.x ps
left_from b [] = refl
left_from b (p ∷ ps) = left_from (with b p) ps

right_from : (b : Bounds) (ps : List Point) → (fold with b ps).high.x ≡ fold (λ m p. int_max m p.x)
    b.high.x ps
right_from b [] = refl
right_from b (p ∷ ps) = right_from (with b p) ps

top_from : (b : Bounds) (ps : List Point) → (fold with b ps).low.y ≡ fold (λ m p. int_min m p.y)
    b.low.y ps
top_from b [] = refl
top_from b (p ∷ ps) = top_from (with b p) ps

bottom_from : (b : Bounds) (ps : List Point) → (fold with b ps).high.y ≡ fold (λ m p. int_max m p.y)
    b.high.y ps
bottom_from b [] = refl
bottom_from b (p ∷ ps) = bottom_from (with b p) ps

pub IsBounds-polygon : (a : Point) (ps : List Point)
    → IsBounds (polygon_holds (a ∷ ps)) (bounds_from a ps)
IsBounds-polygon a ps = record {
  within = λ p h. record {
    left = rw (left_from (bounds_at a) ps)
        (polygon_holds-left _ (a ∷ ps) p (least_bounds (λ q. q.x) a ps) h);
    right = rw (right_from (bounds_at a) ps)
        (polygon_holds-right _ (a ∷ ps) p (most_bounds (λ q. q.x) a ps) h);
    top = rw (top_from (bounds_at a) ps)
        (polygon_holds-top _ (a ∷ ps) p (least_bounds (λ q. q.y) a ps) h);
    bottom = rw (bottom_from (bounds_at a) ps)
        (polygon_holds-bottom _ (a ∷ ps) p (most_bounds (λ q. q.y) a ps) h);
  };
  left = rw (left_from (bounds_at a) ps) (Touches-least (λ q. q.x) a ps);
  right = rw (right_from (bounds_at a) ps) (Touches-most (λ q. q.x) a ps);
  top = rw (top_from (bounds_at a) ps) (Touches-least (λ q. q.y) a ps);
  bottom = rw (bottom_from (bounds_at a) ps) (Touches-most (λ q. q.y) a ps);
}
