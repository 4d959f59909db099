-- What is moved by v holds p + v exactly if it held p. No public clause cites this module.
use Rattle.std.specs.Prelude.{◌≡◌, Bool, cond, List, [], ◌∷◌, ◌++◌, zip, count_by}
use Rattle.std.specs.Prelude.{ℤ, pos, ◌+ℤ◌, ◌-ℤ◌, int_le, refl}
use Rattle.std.specs.List.{list_any}
use Rattle.std.proofs.Common.{arith, sym, ◌∙◌}
use Rattle.std.proofs.Math.IntN.{+ℤ-neg_ℤ_cancel, -ℤ-+ℤ_cancel}
use Rattle.std.proofs.lemmas.Int.{ints}
use Rattle.std.proofs.lemmas.List.{map-append}
use Rattle.std.proofs.lemmas.List.Sums.{sum_by-cons}
use Rattle.gf_plane.specs.declared.point.Point.{Point}
use Rattle.gf_shape.specs.Edges.{Edge, side, is_between, is_on_line, is_on_edge, crosses_left}
use Rattle.gf_shape.specs.Edges.{crosses_right}
use Rattle.gf_shape.specs.FigureMeaning.{chain_holds}
use Rattle.gf_plane.specs.Moving.{minus}
use Rattle.gf_shape.specs.ShapeMeaning.{polygon_holds}
use Rattle.gf_plane.specs.Moving.{plus}
use Rattle.gf_shape.specs.ShapeMoves.{points_moved}

pub gap_same : (a : ℤ) → a -ℤ a ≡ pos 0
gap_same a = omega (arith, ints)

pub gap_past : (a n : ℤ) → (a +ℤ n) -ℤ a ≡ n
gap_past a n = omega (arith, ints)

gap-moved : (a b v : ℤ) → (b +ℤ v) -ℤ (a +ℤ v) ≡ b -ℤ a
gap-moved a b v = omega (arith, ints)

int_le-moved : (a b v : ℤ) → int_le (a +ℤ v) (b +ℤ v) ≡ int_le a b
int_le-moved a b v = grind (arith, ints)

pub minus-moved : (p o v : Point) → minus (plus p v) (plus o v) ≡ minus p o
minus-moved p o v = simp gap-moved

pub minus-plus : (p o : Point) → minus (plus p o) o ≡ p
minus-plus p o = simp +ℤ-neg_ℤ_cancel

pub plus-minus : (p o : Point) → plus (minus p o) o ≡ p
plus-minus p o = simp -ℤ-+ℤ_cancel

side-moved : (a b d v : Point) → side (plus a v, plus b v) (plus d v) ≡ side (a, b) d
unfolding side
side-moved a b d v = simp gap-moved

is_between-moved : (a m b v : ℤ)
    → is_between (a +ℤ v) (m +ℤ v) (b +ℤ v) ≡ is_between a m b
unfolding is_between
is_between-moved a m b v = simp int_le-moved

is_on_edge-moved : (d v a b : Point)
    → is_on_edge (plus d v) (plus a v, plus b v) ≡ is_on_edge d (a, b)
unfolding is_on_line
is_on_edge-moved d v a b = simp (side-moved, is_between-moved)

crosses_left-moved : (d v a b : Point)
    → crosses_left (plus d v) (plus a v, plus b v) ≡ crosses_left d (a, b)
crosses_left-moved d v a b = simp (side-moved, int_le-moved)

crosses_right-moved : (d v a b : Point)
    → crosses_right (plus d v) (plus a v, plus b v) ≡ crosses_right d (a, b)
crosses_right-moved d v a b = simp (side-moved, int_le-moved)

list_any-moved : (v : Point) (t u : Edge → Bool)
    → ((a b : Point) → u (plus a v, plus b v) ≡ t (a, b)) → (ps qs : List Point)
    → list_any u (zip (points_moved ps v) (points_moved qs v)) ≡ list_any t (zip ps qs)
list_any-moved v t u same [] qs = refl
list_any-moved v t u same (p ∷ ps) [] = refl
list_any-moved v t u same (p ∷ ps) (q ∷ qs) = rw (same p q, list_any-moved v t u same ps qs)

count_by-moved : (v : Point) (t u : Edge → Bool)
    → ((a b : Point) → u (plus a v, plus b v) ≡ t (a, b)) → (ps qs : List Point)
    → count_by u (zip (points_moved ps v) (points_moved qs v)) ≡ count_by t (zip ps qs)
count_by-moved v t u same [] qs = refl
count_by-moved v t u same (p ∷ ps) [] = refl
count_by-moved v t u same (p ∷ ps) (q ∷ qs) =
    sum_by-cons (λ e. cond (u e) 1 0) (
      plus p v,
      plus q v,
    ) (zip (points_moved ps v) (points_moved qs v))
    ∙ rw (same p q, count_by-moved v t u same ps qs)
    (sym (sum_by-cons (λ e. cond (t e) 1 0) (p, q) (zip ps qs)))

pub chain_holds-moved : (ps : List Point) (v p : Point)
    → chain_holds (points_moved ps v) (plus p v) ≡ chain_holds ps p
chain_holds-moved [] v p = refl
chain_holds-moved (a ∷ ps) v p =
    rw (
      list_any-moved v (is_on_edge p) (is_on_edge (plus p v)) (is_on_edge-moved p v) (a ∷ ps)
          ps,
      count_by-moved v (crosses_left p) (crosses_left (plus p v)) (crosses_left-moved p v)
          (a ∷ ps) ps,
    )

pub polygon_holds-moved : (ps : List Point) (v p : Point)
    → polygon_holds (points_moved ps v) (plus p v) ≡ polygon_holds ps p
polygon_holds-moved [] v p = refl
polygon_holds-moved (a ∷ ps) v p =
    rw (
      ← map-append (λ q. plus q v) ps (a ∷ []),
      list_any-moved v (is_on_edge p) (is_on_edge (plus p v)) (is_on_edge-moved p v) (a ∷ ps)
          (ps ++ a ∷ []),
      count_by-moved v (crosses_right p) (crosses_right (plus p v))
          (crosses_right-moved p v) (a ∷ ps) (ps ++ a ∷ []),
    )
