-- The bounds of the points of a chain are the least bounds of what it holds.
use Rattle.std.specs.Prelude.{◌≡◌, ◌-◌, ◌≤◌, length, take, drop, Bool, List, [], ◌∷◌, ◌++◌, fold, ℤ}
use Rattle.std.specs.Prelude.{◌≤ℤ◌, slice_get}
use Rattle.std.specs.Int.{int_min, int_max}
use Rattle.std.proofs.Common.{arith, get_or, subst, sym, ◌∙◌}
use Rattle.std.proofs.lemmas.Int.{ints}
use Rattle.std.proofs.lemmas.List.{take_all}
use Rattle.std.proofs.lemmas.List.Sums.{fold-append}
use Rattle.gf_shape.specs.declared.bounds.Bounds.{Bounds}
use Rattle.gf_plane.specs.declared.point.Point.{Point}
use Rattle.gf_shape.specs.BoundsOf.{bounds_at, bounds_from, with}
use Rattle.gf_shape.specs.FigureMeaning.{chain_holds}
use Rattle.gf_shape.specs.Opened.{IsClosed, opened}
use Rattle.gf_shape.specs.Ring.{IsRing, Ring}
use Rattle.gf_shape.specs.ShapeLaws.{IsBounds, IsInBounds, Touches}
use Rattle.gf_shape.specs.ShapeMeaning.{polygon_holds}
use Rattle.gf_shape.specs.Laws.Parity.{polygon_holds_as_chain}
use Rattle.gf_shape.proofs.PolygonBounds.{IsBounds-polygon}
use Rattle.gf_shape.proofs.RingLemmas.{chain_holds-closed, points_again}

Touches-same : (f g : Point → Bool) (coordinate : Point → ℤ) (n : ℤ) → ((p : Point) → f p ≡ g p)
    → Touches f coordinate n → Touches g coordinate n
Touches-same f g coordinate n same (p, h, e) = (p, sym (same p) ∙ h, e)

-- bounds are those of all that holds the same points
pub IsBounds-same : (f g : Point → Bool) (b : Bounds) → ((p : Point) → f p ≡ g p) → IsBounds f b
    → IsBounds g b
IsBounds-same f g b same h = record {
  within = λ p k. h.within p (same p ∙ k);
  left = Touches-same f g _ _ same h.left;
  right = Touches-same f g _ _ same h.right;
  top = Touches-same f g _ _ same h.top;
  bottom = Touches-same f g _ _ same h.bottom;
}

min_kept : (m n : ℤ) → m ≤ℤ n → int_min m n ≡ m
min_kept m n h = grind (arith, ints)

max_kept : (m n : ℤ) → n ≤ℤ m → int_max m n ≡ m
max_kept m n h = grind (arith, ints)

-- widening bounds to a point within them changes nothing
with-within : (b : Bounds) (p : Point) → IsInBounds b p → with b p ≡ b
with-within b p h = rw (
  min_kept _ _ h.left,
  min_kept _ _ h.top,
  max_kept _ _ h.right,
  max_kept _ _ h.bottom,
)

min_left : (m n k : ℤ) → m ≤ℤ k → int_min m n ≤ℤ k
min_left m n k h = grind (arith, ints)

max_left : (m n k : ℤ) → k ≤ℤ m → k ≤ℤ int_max m n
max_left m n k h = grind (arith, ints)

-- what lies within bounds lies within wider ones
IsWithin-wider : (b : Bounds) (ps : List Point) (p : Point) → IsInBounds b p
    → IsInBounds (fold with b ps) p
IsWithin-wider b [] p h = h
IsWithin-wider b (q ∷ ps) p h =
    IsWithin-wider (with b q) ps p (record {
      left = min_left _ _ _ h.left;
      right = max_left _ _ _ h.right;
      top = min_left _ _ _ h.top;
      bottom = max_left _ _ _ h.bottom;
    })

le_same : (n : ℤ) → n ≤ℤ n
le_same n = omega (arith, ints)

IsWithin-at : (a : Point) → IsInBounds (bounds_at a) a
IsWithin-at a = record {
  left = le_same a.x;
  right = le_same a.x;
  top = le_same a.y;
  bottom = le_same a.y;
}

-- the first point again widens no bounds
bounds_from-again : (a : Point) (ps : List Point) → bounds_from a (ps ++ a ∷ []) ≡ bounds_from a ps
bounds_from-again a ps = fold-append with (bounds_at a) ps (a ∷ [])
    ∙ with-within _ a (IsWithin-wider (bounds_at a) ps a (IsWithin-at a))

IsBounds-points : (a : Point) (ps qs : List Point) → ps ≡ qs ++ a ∷ []
    → IsBounds (chain_holds (a ∷ ps)) (bounds_from a ps)
IsBounds-points a ps qs e =
    rw (e, bounds_from-again a qs)
    (IsBounds-same (polygon_holds (a ∷ qs)) (chain_holds ((a ∷ qs) ++ a ∷ [])) (bounds_from a qs)
    (polygon_holds_as_chain (a ∷ qs)) (IsBounds-polygon a qs))

-- the bounds law of chains
IsBounds-closed : (ps : List Point) (x : Point) → 4 ≤ length ps
    → slice_get ps (length ps - 1) ≡ slice_get ps 0
    → IsBounds (chain_holds ps) (bounds_from (get_or ps 0 x) (take (length ps - 1) (drop 1 ps)))
IsBounds-closed [] x n e = absurd (omega arith)
IsBounds-closed (a ∷ []) x n e = absurd (omega arith)
IsBounds-closed (a ∷ b ∷ ps) x n e =
    let whole : take (length (a ∷ b ∷ ps) - 1) (b ∷ ps) ≡ b ∷ ps = take_all
    (length (a ∷ b ∷ ps) - 1) (b ∷ ps) (omega arith) in
    let back : length (a ∷ b ∷ ps) - 1 ≡ length (b ∷ ps) = omega arith in
    rw whole (IsBounds-points a (b ∷ ps) (take (length ps) (b ∷ ps))
    (points_again a b ps (rw back at e)))

pub IsBounds-ring : (r : Ring) (a : Point) (ps : List Point) (b : Bounds) → IsRing r
    → a ≡ get_or r.points 0 a → ps ≡ r.points → b ≡ bounds_from a (take (length ps - 1) (drop 1 ps))
    → IsBounds (chain_holds r.points) b
IsBounds-ring r a ps b h first whole e =
    rw (e, whole)
    (subst (λ q. IsBounds (chain_holds r.points)
    (bounds_from q (take (length r.points - 1) (drop 1 r.points)))) (sym first)
    (IsBounds-closed r.points a h.least h.closed))

-- the bounds law of polygons
pub IsBounds-opened : (r : Ring) (b : Bounds) → IsClosed r → IsBounds (chain_holds r.points) b
    → IsBounds (polygon_holds (opened r.points)) b
IsBounds-opened r b h k = IsBounds-same (chain_holds r.points) (polygon_holds (opened r.points)) b
    (chain_holds-closed r h) k
