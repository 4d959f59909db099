-- Off the edges of a closed ring, the rays to the left and right cross equally many edges modulo 2.
-- No public clause cites this module.
use Rattle.std.specs.Prelude.{◌≡◌, ℕ, ◌+◌, ◌%◌, take, nat_eq, Bool, true, false}
use Rattle.std.specs.Prelude.{not, cond, ◌&&◌, ◌||◌, List, [], ◌∷◌, ◌++◌, zip}
use Rattle.std.specs.Prelude.{count_by, pos, int_le, int_lt, refl}
use Rattle.std.specs.List.{list_any}
use Rattle.std.proofs.Common.{arith, ap}
use Rattle.std.proofs.lemmas.Bool.Decides.{nat_tests}
use Rattle.std.proofs.lemmas.Bool.{or_parts}
use Rattle.std.proofs.lemmas.List.Sums.{sum_by-cons}
use Rattle.gf_plane.specs.declared.point.Point.{Point}
use Rattle.gf_shape.specs.Edges.{side, is_on_edge, crosses_left, crosses_right}
use Rattle.gf_shape.specs.FigureMeaning.{chain_holds}
use Rattle.gf_shape.specs.ShapeMeaning.{polygon_holds}
use Rattle.gf_shape.specs.Laws.Sides.{Strict, side_strict}

-- 1 for a test that holds, and else 0
abbrev pub bit : Bool → ℕ
bit b = cond b 1 0

-- whether an edge with its ends at and past a height, or past and at, crosses a ray
abbrev pub crosses : (low high strict back : Bool) → Bool
crosses low high strict back = (low && not high && strict) || (high && not low && back)

bits_even : (a b p n : Bool) → ((a ≡ b → ⊥) → Strict p n)
    → (bit (crosses a b p n) + bit (crosses a b n p) + bit a + bit b) % 2 ≡ 0
bits_even true true p n s = refl
bits_even false false p n s = refl
bits_even true false true false s = refl
bits_even true false false true s = refl
bits_even false true true false s = refl
bits_even false true false true s = refl
bits_even a b p n s = grind arith

edge_even : (d a b : Point) → is_on_edge d (a, b) ≡ false
    → (bit (crosses_right d (a, b)) + bit (crosses_left d (a, b)) + bit (int_le a.y d.y)
    + bit (int_le b.y d.y)) % 2 ≡ 0
edge_even d a b off = bits_even (int_le a.y d.y) (int_le b.y d.y) (int_lt (pos 0) (side (a, b) d))
    (int_lt (side (a, b) d) (pos 0)) (side_strict d a b off)

-- off a path from a to z, the crossings of both rays and the ends up to d are even
path_even : (d a z : Point) (ps : List Point)
    → list_any (is_on_edge d) (zip (a ∷ ps) (ps ++ z ∷ [])) ≡ false
    → (count_by (crosses_right d) (zip (a ∷ ps) (ps ++ z ∷ [])) + count_by (crosses_left d)
    (zip (a ∷ ps) (ps ++ z ∷ [])) + bit (int_le a.y d.y) + bit (int_le z.y d.y)) % 2 ≡ 0
path_even d a z [] off = let e = edge_even d a z (or_parts _ _ off).0
    in simp sum_by-cons (omega arith)
path_even d a z (b ∷ ps) off =
    let parts = or_parts (is_on_edge d (a, b))
    (list_any (is_on_edge d) (zip (b ∷ ps) (ps ++ z ∷ []))) off in
    let e = edge_even d a b parts.0 in
    let r = path_even d b z ps parts.1 in
    simp sum_by-cons (omega arith)

same_parity : (m n : ℕ) → (m + n) % 2 ≡ 0 → nat_eq (m % 2) 1 ≡ nat_eq (n % 2) 1
same_parity m n e = grind (arith, nat_tests)

same_or : (t b c : Bool) → (t ≡ false → b ≡ c) → (t || b) ≡ (t || c)
same_or true b c h = refl
same_or false b c h = h refl

-- the edges of an open path whose last point is written again are those of the path
edges_again : (a z : Point) (ps : List Point)
    → zip (a ∷ (ps ++ z ∷ [])) (ps ++ z ∷ []) ≡ zip (a ∷ ps) (ps ++ z ∷ [])
edges_again a z [] = refl
edges_again a z (b ∷ ps) = ap (λ es. (a, b) ∷ es) (edges_again b z ps)

-- over a closed ring the two rays cross equally many edges modulo 2
ring_parity : (d a : Point) (ps : List Point)
    → list_any (is_on_edge d) (zip (a ∷ ps) (ps ++ a ∷ [])) ≡ false
    → nat_eq (count_by (crosses_right d) (zip (a ∷ ps) (ps ++ a ∷ [])) % 2) 1
    ≡ nat_eq (count_by (crosses_left d) (zip (a ∷ ps) (ps ++ a ∷ [])) % 2) 1
ring_parity d a ps off =
    let e = path_even d a a ps off in
    same_parity _ _ (omega arith)

-- the outline law over the ring a, ps
polygon_holds-cons : (a : Point) (ps : List Point) (d : Point)
    → polygon_holds (a ∷ ps) d ≡ chain_holds ((a ∷ ps) ++ a ∷ []) d
polygon_holds-cons a ps d =
    rw (edges_again a a ps) (same_or (list_any (is_on_edge d) (zip (a ∷ ps) (ps ++ a ∷ []))) _ _
    (ring_parity d a ps))

-- the outline law of polygons
pub polygon_holds_as_chain : (ps : List Point) (d : Point)
    → polygon_holds ps d ≡ chain_holds (ps ++ take 1 ps) d
polygon_holds_as_chain [] d = refl
polygon_holds_as_chain (a ∷ ps) d = polygon_holds-cons a ps d
