-- The laws that every shape keeps, over the set of points that it holds (this project's choice).
use Rattle.std.specs.Prelude.{◌≡◌, Bool, IsTrue, ℤ, ◌≤ℤ◌}
use Rattle.gf_shape.specs.declared.bounds.Bounds.{Bounds}
use Rattle.gf_plane.specs.declared.point.Point.{Point}
use Rattle.gf_shape.specs.declared.outline.Outline.{Outline}
use Rattle.gf_shape.specs.declared.outline.Outline.TheVariants.{Chain, Disc, Oval}
use Rattle.gf_shape.specs.FigureMeaning.{outline_holds}
use Rattle.gf_plane.specs.Moving.{plus}
use Rattle.gf_shape.specs.Ring.{IsRing}
use Rattle.gf_shape.specs.Round.{is_round}
use Rattle.gf_shape.specs.Oblong.{is_oblong}

-- move law: new holds p + d exactly if old holds p
abbrev pub IsMovedBy : Point → (Point → Bool) → (Point → Bool) → Type 0
IsMovedBy d old new = (p : Point) → new (plus p d) ≡ old p

-- p lies in the bounds
pub record IsInBounds (bounds : Bounds) (p : Point) : Type 0 where
  pub left : bounds.low.x ≤ℤ p.x
  pub right : p.x ≤ℤ bounds.high.x
  pub top : bounds.low.y ≤ℤ p.y
  pub bottom : p.y ≤ℤ bounds.high.y

-- some point that is held has this coordinate
abbrev pub Touches : (Point → Bool) → (Point → ℤ) → ℤ → Type 0
Touches holds coordinate n = (p : Point) × IsTrue (holds p) × (coordinate p ≡ n)

-- bounds law: each point that is held lies in the bounds, and each of their four sides has one
pub record IsBounds (holds : Point → Bool) (bounds : Bounds) : Type 0 where
  pub within : (p : Point) → IsTrue (holds p) → IsInBounds bounds p
  pub left : Touches holds (λ p. p.x) bounds.low.x
  pub right : Touches holds (λ p. p.x) bounds.high.x
  pub top : Touches holds (λ p. p.y) bounds.low.y
  pub bottom : Touches holds (λ p. p.y) bounds.high.y

-- the limits of a figure's outline
abbrev pub IsLawful : Outline → Type 0
IsLawful (Chain ring) = IsRing ring
IsLawful (Disc round) = IsTrue (is_round round)
IsLawful (Oval oblong) = IsTrue (is_oblong oblong)

-- outline law: the outline holds by the figure meaning what the shape holds by its own
abbrev pub IsOutlineOf : (Point → Bool) → Outline → Type 0
IsOutlineOf holds outline = (p : Point) → outline_holds outline p ≡ holds p
