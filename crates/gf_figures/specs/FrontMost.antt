-- The figure in front at a point, found in file order. No public clause cites this module.
use Rattle.std.specs.Prelude.{ℕ, Bool, true, ◌&&◌, nat_le, if◌then◌else◌, List, fold}
use Rattle.std.specs.Prelude.{Option, None, Some}
use Rattle.gf_plane.specs.declared.point.Point.{Point}
use Rattle.gf_figures.specs.declared.figure.Figure.{Figure}

module _ {F : Type 0} (depth : F → ℕ) where
  -- d is no greater than the depth of the figure in front, if there is one
  abbrev pub is_no_deeper : ℕ → Option F → Bool
  is_no_deeper d None = true
  is_no_deeper d (Some g) = nat_le d (depth g)

  -- the figure in front, where f comes next
  abbrev pub nearer : (F → Bool) → Option F → F → Option F
  nearer holds front f = if holds f && is_no_deeper (depth f) front then Some f else front

module _ {S : Type 0} (holds : S → Point → Bool) where
  -- the figure in front at p, where f comes next
  abbrev pub nearer_at : Point → Option (Figure S) → Figure S → Option (Figure S)
  nearer_at p = nearer (λ (f : Figure S). f.depth) (λ (f : Figure S). holds f.shape p)

  -- the figure in front at p
  abbrev pub front_at : Point → List (Figure S) → Option (Figure S)
  front_at p figures = fold (nearer_at p) None figures
