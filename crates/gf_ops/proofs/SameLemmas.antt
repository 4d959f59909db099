-- The tests of points, ids, colours and values tell whether two are one.
use Rattle.std.proofs.Common.{◌≡◌, true, ◌&&◌, ◌==◌, List, refl, sym, ap, subst, true≢false}
use Rattle.std.specs.Bool.{Decides}
use Rattle.std.specs.Cmp.{booleans_Decides}
use Rattle.std.specs.Ordering.{int_eq}
use Rattle.std.proofs.lemmas.Bool.{and_parts}
use Rattle.std.proofs.lemmas.Bool.Decides.{Decides-eqb, Decides-int_eq}
use Rattle.std.proofs.lemmas.Slice.Eq.{slice_eq-Decides}
use Rattle.gf_plane.specs.declared.point.Point.{Point}
use Rattle.gf_plane.specs.declared.colour.Rgb.{Rgb}
use Rattle.gf_ops.specs.declared.op.OpId.{OpId}
use Rattle.gf_ops.specs.declared.change.Value.{Value}
use Rattle.gf_ops.specs.declared.change.Value.TheVariants.{Place, Points, Size, Colour, Layer}
use Rattle.gf_ops.specs.declared.change.Value.TheVariants.{Shown}
use Rattle.gf_ops.specs.ConflictTests.{colour_eq, value_eq}
use Rattle.gf_ops.specs.SamePoints.{point_eq, points_eq}
use Rattle.gf_ops.specs.SameIds.{same_id, ids_eq}

points_told : (p q : Point) → Decides (point_eq p q) (p ≡ q)
points_told p q = (
  λ t.
      let b = and_parts (int_eq p.x q.x) (int_eq p.y q.y) t in
      let x = (Decides-int_eq p.x q.x).0 b.0 in
      let y = (Decides-int_eq p.y q.y).0 b.1 in
      λ j. record { x = x j; y = y j },
  λ e. subst (λ r. point_eq p r ≡ true) e
      (rw ((Decides-int_eq p.x p.x).1 refl, (Decides-int_eq p.y p.y).1 refl) refl),
)

pub colours_told : (c d : Rgb) → Decides (colour_eq c d) (c ≡ d)
colours_told c d = (
  λ t.
      let b = and_parts (c.r == d.r && c.g == d.g) (c.b == d.b) t in
      let n = and_parts (c.r == d.r) (c.g == d.g) b.0 in
      let r = (Decides-eqb c.r d.r).0 n.0 in
      let g = (Decides-eqb c.g d.g).0 n.1 in
      let u = (Decides-eqb c.b d.b).0 b.1 in
      λ j. record { r = r j; g = g j; b = u j },
  λ e. subst (λ f. colour_eq c f ≡ true) e
      (rw ((Decides-eqb c.r c.r).1 refl, (Decides-eqb c.g c.g).1 refl, (Decides-eqb c.b c.b).1 refl)
      refl),
)

-- `==` of two lists of points says whether they are one
pub points_decides : (ps qs : List Point) → Decides (points_eq ps qs) (ps ≡ qs)
points_decides ps qs = slice_eq-Decides points_told ps qs (points_eq ps qs) refl

-- `==` of two lists of ids says whether they are one
ids_told : (i j : OpId) → Decides (same_id i j) (i ≡ j)
ids_told i j = (
  λ t.
      let b = and_parts (i.site == j.site) (i.seq == j.seq) t in
      let x = (Decides-eqb i.site j.site).0 b.0 in
      let y = (Decides-eqb i.seq j.seq).0 b.1 in
      λ k. record { site = x k; seq = y k },
  λ e. subst (λ r. same_id i r ≡ true) e
      (rw ((Decides-eqb i.site i.site).1 refl, (Decides-eqb i.seq i.seq).1 refl) refl),
)

pub ids_decides : (is js : List OpId) → Decides (ids_eq is js) (is ≡ js)
ids_decides is js = slice_eq-Decides ids_told is js (ids_eq is js) refl

-- a value is the same as itself
pub value_eq-same : (v : Value) → value_eq v v ≡ true
value_eq-same (Place p) = (points_told p p).1 refl
value_eq-same (Points ps) = (points_decides ps ps).1 refl
value_eq-same (Size w h) = rw ((Decides-eqb w w).1 refl, (Decides-eqb h h).1 refl) refl
value_eq-same (Colour c) = (colours_told c c).1 refl
value_eq-same (Layer n) = (Decides-eqb n n).1 refl
value_eq-same (Shown b) = (booleans_Decides b b).1 refl

-- and as no other
pub value_eq-true : (v w : Value) → value_eq v w ≡ true → v ≡ w
value_eq-true (Place p) (Place q) t = ap Place ((points_told p q).0 t)
value_eq-true (Points ps) (Points qs) t = ap Points ((points_decides ps qs).0 t)
value_eq-true (Size v j) (Size w k) t =
    let b = and_parts (v == w) (j == k) t in
    let e = (Decides-eqb v w).0 b.0 in let f = (Decides-eqb j k).0 b.1 in λ i. Size (e i) (f i)
value_eq-true (Colour c) (Colour d) t = ap Colour ((colours_told c d).0 t)
value_eq-true (Layer m) (Layer n) t = ap Layer ((Decides-eqb m n).0 t)
value_eq-true (Shown b) (Shown c) t = ap Shown ((booleans_Decides b c).0 t)
value_eq-true v w t = absurd (true≢false (sym t))
