-- Walking along a closed chain tells whether it holds a point.
use Rattle.std.specs.Prelude.{◌≡◌, ℕ, ◌+◌, ◌%◌, ◌<◌, ◌≤◌, length, drop, nat_eq, Bool, true, false}
use Rattle.std.specs.Prelude.{not, cond, ◌||◌, List, [], ◌∷◌, zip, count_by, refl}
use Rattle.std.specs.List.{list_any}
use Rattle.std.proofs.Common.{arith, ap, get_or, sym, ◌∙◌}
use Rattle.std.proofs.lemmas.Bool.{or_left}
use Rattle.std.proofs.lemmas.List.{at_drop_more, drop_all}
use Rattle.std.proofs.lemmas.Bool.Decides.{nat_tests}
use Rattle.std.proofs.lemmas.List.Sums.{sum_by-cons}
use Rattle.gf_plane.specs.declared.point.Point.{Point}
use Rattle.gf_shape.specs.Edges.{is_on_edge, crosses_left}
use Rattle.gf_shape.specs.FigureMeaning.{chain_holds}
use Rattle.gf_shape.specs.Laws.Parity.{bit}

-- what the walk from a along ps answers, where odd tells whether the edges before it were crossed
-- an odd number of times
abbrev pub walk : Point → Bool → Point → List Point → Bool
walk d odd a [] = odd
walk d odd a (b ∷ ps) = is_on_edge d (a, b) || walk d (cond (crosses_left d (a, b)) (not odd) odd) b
    ps

turned : (c odd : Bool) (n : ℕ) → nat_eq ((bit (cond c (not odd) odd) + n) % 2) 1 ≡ nat_eq
    ((bit odd + (bit c + n)) % 2) 1
turned true true n = grind (arith, nat_tests)
turned true false n = grind (arith, nat_tests)
turned false true n = grind (arith, nat_tests)
turned false false n = grind (arith, nat_tests)

or_moved : (on any odd : Bool) → (on || (any || odd)) ≡ ((on || any) || odd)
or_moved true any odd = refl
or_moved false any odd = refl

walk_tells : (d : Point) (odd : Bool) (a : Point) (ps : List Point)
    → walk d odd a ps ≡ (list_any (is_on_edge d) (zip (a ∷ ps) ps) || nat_eq
    ((bit odd + count_by (crosses_left d) (zip (a ∷ ps) ps)) % 2) 1)
walk_tells d true a [] = refl
walk_tells d false a [] = refl
walk_tells d odd a (b ∷ ps) =
    ap (λ t. is_on_edge d (a, b) || t) (walk_tells d (cond (crosses_left d (a, b)) (not odd) odd) b
    ps)
    ∙ rw (
      turned (crosses_left d (a, b)) odd (count_by (crosses_left d) (zip (b ∷ ps) ps)),
      sum_by-cons (λ e. cond (crosses_left d e) 1 0) (a, b) (zip (b ∷ ps) ps),
    )
    (or_moved (is_on_edge d (a, b)) _ _)

none_before : (n : ℕ) → 0 + n ≡ n
none_before n = omega arith

pub walk_tells_chain : (d a : Point) (ps : List Point) → walk d false a ps ≡ chain_holds (a ∷ ps) d
walk_tells_chain d a ps =
    walk_tells d false a ps ∙ ap (λ n. list_any (is_on_edge d) (zip (a ∷ ps) ps) || nat_eq (n % 2)
    1) (none_before (count_by (crosses_left d) (zip (a ∷ ps) ps)))

-- the walk stops on an edge that the point lies on
pub walk_stops : (d first a x : Point) (odd : Bool) (ps : List Point) (i : ℕ) → i < length ps
    → true ≡ is_on_edge d (a, get_or ps i x) → walk d odd a (drop i ps) ≡ walk d false first ps
    → true ≡ chain_holds (first ∷ ps) d
walk_stops d first a x odd ps i h on e =
    sym (or_left (is_on_edge d (a, get_or ps i x)) _ (sym on))
    ∙ (sym (at_drop_more (walk d odd a) ps i x h) ∙ (e ∙ walk_tells_chain d first ps))

-- at its end the walk tells whether the edges were crossed an odd number of times
pub walk_ends : (d first a : Point) (odd : Bool) (ps : List Point) (i : ℕ) → length ps ≤ i
    → walk d odd a (drop i ps) ≡ walk d false first ps → odd ≡ chain_holds (first ∷ ps) d
walk_ends d first a odd ps i h e = ap (walk d odd a) (sym (drop_all i ps h))
    ∙ (e ∙ walk_tells_chain d first ps)
