-- Chains round points: when they are lawful, and how they move.
use Rattle.std.specs.Prelude.{◌≡◌, ℕ, ◌+◌, ◌-◌, ◌≤◌, ◌<◌, length, take, Bool, true, false, nat_le}
use Rattle.std.specs.Prelude.{IsTrue, List, [], ◌∷◌, ◌++◌, All, slice_get, Some, refl, ◌&&◌}
use Rattle.std.specs.List.{list_all}
use Rattle.std.proofs.Common.{arith, get_or, option_map, sym, ◌∙◌, ap, subst}
use Rattle.std.proofs.lemmas.Bool.{and_parts, and_from, leb-true}
use Rattle.std.proofs.lemmas.List.{length-append, length-map, map-append, take_all, take_more}
use Rattle.std.proofs.lemmas.List.Elements.{All-append, All-cons, All-get_or, All-map, All-nil}
use Rattle.std.proofs.lemmas.List.Elements.{All-take}
use Rattle.std.proofs.lemmas.List.Folds.{list_all-map}
use Rattle.std.proofs.lemmas.Option.{slice_get-map}
use Rattle.gf_plane.specs.declared.point.Point.{Point}
use Rattle.gf_shape.specs.FigureMeaning.{chain_holds}
use Rattle.gf_plane.specs.Moving.{plus}
use Rattle.gf_shape.specs.Opened.{IsClosed, opened}
use Rattle.gf_plane.specs.PointCounts.{is_polygon_count}
use Rattle.gf_shape.specs.Polygons.{is_polygon}
use Rattle.gf_plane.specs.Reach.{is_within_reach}
use Rattle.gf_shape.specs.Ring.{IsRing, Ring, ring_of}
use Rattle.gf_shape.specs.ShapeMeaning.{polygon_holds}
use Rattle.gf_shape.specs.ShapeMoves.{points_movable, points_moved, ring_moved}
use Rattle.gf_shape.specs.Laws.Parity.{polygon_holds_as_chain}

abbrev IsReached : Point → Type 0
IsReached p = IsTrue (is_within_reach p)

-- a polygon has at least 3 points and at most 64
counted : (ps : List Point) → IsTrue (is_polygon ps) → (3 ≤ length ps) × (length ps ≤ 64)
counted ps h =
    let parts = and_parts (nat_le 3 (length ps)) (nat_le (length ps) 64)
    (and_parts (is_polygon_count (length ps)) (list_all is_within_reach ps) h).0 in
    (leb-true 3 (length ps) parts.0, leb-true (length ps) 64 parts.1)

All-from_list_all : (t : Point → Bool) (ps : List Point) → list_all t ps ≡ true
    → All (λ p. IsTrue (t p)) ps
All-from_list_all t [] h = All-nil (λ p. IsTrue (t p))
All-from_list_all t (p ∷ ps) h = let parts = and_parts (t p) (list_all t ps) h in
    All-cons (λ q. IsTrue (t q)) p ps parts.0 (All-from_list_all t ps parts.1)

-- where points can be moved, each of them can
pub movable_at : (ps : List Point) (i : ℕ) (p d : Point) → i < length ps
    → IsTrue (points_movable ps d) → IsTrue (is_within_reach (plus (get_or ps i p) d))
movable_at ps i p d l h = All-get_or (λ q. IsTrue (is_within_reach (plus q d))) ps i p l
    (All-from_list_all (λ q. is_within_reach (plus q d)) ps h)

-- points moved one after the other, and all of them
pub moved_more : (old new : List Point) (m d p : Point) (ps : List Point) (i : ℕ) → i < length ps
    → new ≡ old ++ m ∷ [] → old ≡ points_moved (take i ps) d → m ≡ plus (get_or ps i p) d
    → new ≡ points_moved (take (i + 1) ps) d
moved_more old new m d p ps i l e is one =
    e ∙ (rw (is, one) (sym (ap (λ qs. points_moved qs d) (take_more ps i p l)
    ∙ map-append (λ q. plus q d) (take i ps) (get_or ps i p ∷ []))))

pub moved_all : (ms ps : List Point) (d : Point) (i : ℕ) → length ps ≤ i
    → ms ≡ points_moved (take i ps) d → ms ≡ points_moved ps d
moved_all ms ps d i l is = is ∙ ap (λ qs. points_moved qs d) (take_all i ps l)

twice : (a b : Bool) → ((a && b) && (a && true)) ≡ (a && b)
twice true true = refl
twice true false = refl
twice false b = refl

some_exact : {a b : Point} → Some a ≡ Some b → a ≡ b
some_exact e = cc

slice_get-last : (a : Point) (ps : List Point) → slice_get (ps ++ a ∷ []) (length ps) ≡ Some a
slice_get-last a [] = refl
slice_get-last a (b ∷ ps) = slice_get-last a ps

-- the chain round the points of a polygon is lawful
pub IsRing-ring_of : (ps : List Point) → IsTrue (is_polygon ps) → IsRing (ring_of ps)
IsRing-ring_of [] h = absurd (omega (counted [] h, arith))
IsRing-ring_of (a ∷ ps) h =
    let n = counted (a ∷ ps) h in
    let e : length ((a ∷ ps) ++ a ∷ []) - 1 ≡ length (a ∷ ps) = simp length-append (omega arith) in
    let reached = All-from_list_all is_within_reach (a ∷ ps)
    (and_parts (is_polygon_count (length (a ∷ ps))) _ h).1 in
    record {
      least = simp length-append (omega arith);
      most = simp length-append (omega arith);
      box = λ t. absurd (cc);
      closed = ap (slice_get (a ∷ (ps ++ a ∷ []))) e ∙ slice_get-last a (a ∷ ps);
      reach = All-append IsReached (a ∷ ps) (a ∷ []) reached
          (All-take IsReached 1 (a ∷ ps) reached);
    }

-- points followed by their first one are the chain round them
pub points-then_first : (ps : List Point) (x : Point) → IsTrue (is_polygon ps)
    → ps ++ get_or ps 0 x ∷ [] ≡ (ring_of ps).points
points-then_first [] x h = absurd (omega (counted [] h, arith))
points-then_first (a ∷ ps) x h = refl

-- a lawful chain moved within reach is lawful
pub IsRing-moved : (r : Ring) (d : Point) → IsRing r → IsTrue (points_movable r.points d)
    → IsRing (ring_moved r d)
IsRing-moved r d h m =
    let n : length (points_moved r.points d) ≡ length r.points = length-map r.points (λ p. plus p d)
    in
    record {
      least = rw n h.least;
      most = rw n h.most;
      box = λ t. n ∙ h.box t;
      closed =
          slice_get-map (λ p. plus p d) r.points (length (points_moved r.points d) - 1)
          ∙ (ap (λ k. option_map (λ p. plus p d) (slice_get r.points (k - 1))) n
          ∙ (ap (option_map (λ p. plus p d)) h.closed
          ∙ sym (slice_get-map (λ p. plus p d) r.points 0)));
      reach = All-map IsReached (λ p. plus p d) r.points
          (All-from_list_all (λ p. is_within_reach (plus p d)) r.points m);
    }

take-again : (ps qs : List Point) → take (length ps) (ps ++ qs) ≡ ps
take-again [] qs = refl
take-again (p ∷ ps) qs = ap (λ rest. p ∷ rest) (take-again ps qs)

-- opening the chain round points gives the points
pub opened-ring_of : (ps : List Point) → opened (ring_of ps).points ≡ ps
opened-ring_of [] = refl
opened-ring_of (a ∷ ps) =
    let e : length ((a ∷ ps) ++ a ∷ []) - 1 ≡ length (a ∷ ps) = simp length-append (omega arith) in
    ap (λ n. take n ((a ∷ ps) ++ a ∷ [])) e ∙ take-again (a ∷ ps) (a ∷ [])

pub IsClosed-ring_of : (ps : List Point) → IsTrue (is_polygon ps) → IsClosed (ring_of ps)
IsClosed-ring_of ps h = record {
  polygon = rw (opened-ring_of ps) h;
  closed = ap ring_of (sym (opened-ring_of ps));
}

-- moving and closing go in either order
ring_moved-ring_of : (ps : List Point) (d : Point)
    → ring_moved (ring_of ps) d ≡ ring_of (points_moved ps d)
ring_moved-ring_of [] d = refl
ring_moved-ring_of (a ∷ ps) d = ap (λ points. record { boxed = false; points = points })
    (map-append (λ p. plus p d) (a ∷ ps) (a ∷ []))

is_polygon-moved : (ps : List Point) (d : Point) → IsTrue (is_polygon ps)
    → IsTrue (points_movable ps d) → IsTrue (is_polygon (points_moved ps d))
is_polygon-moved ps d h m =
    and_from _ _
    (rw (length-map ps (λ p. plus p d)) (and_parts (is_polygon_count (length ps)) _ h).0)
    (list_all-map is_within_reach (λ p. plus p d) ps ∙ m)

-- a polygon's chain moved within reach is a polygon's
pub IsClosed-moved : (r : Ring) (d : Point) → IsClosed r
    → IsTrue (points_movable (opened r.points) d) → IsClosed (ring_moved r d)
IsClosed-moved r d h m =
    subst IsClosed
    (sym (ap (λ s. ring_moved s d) h.closed ∙ ring_moved-ring_of (opened r.points) d))
    (IsClosed-ring_of (points_moved (opened r.points) d)
    (is_polygon-moved (opened r.points) d h.polygon m))

-- a polygon's chain holds what the polygon holds
pub chain_holds-closed : (r : Ring) → IsClosed r → (p : Point)
    → chain_holds r.points p ≡ polygon_holds (opened r.points) p
chain_holds-closed r h p = ap (λ (s : Ring). chain_holds s.points p) h.closed
    ∙ sym (polygon_holds_as_chain (opened r.points) p)

last_again : (a b : Point) (ps : List Point) → slice_get (a ∷ ps) (length ps) ≡ Some b
    → a ∷ ps ≡ take (length ps) (a ∷ ps) ++ b ∷ []
last_again a b [] e = ap (λ c. c ∷ []) (some_exact e)
last_again a b (c ∷ ps) e = ap (λ rest. a ∷ rest) (last_again c b ps e)

-- where the last point is the first, the points after it end in it
pub points_again : (a b : Point) (ps : List Point) → slice_get (a ∷ b ∷ ps) (length (b ∷ ps)) ≡ Some
    a → b ∷ ps ≡ take (length ps) (b ∷ ps) ++ a ∷ []
points_again a b ps e = last_again b a ps e
