-- Polygons that a FIG editor does not keep: xfig 3.2.8b drops each point that equals the one before
-- it, and three have to be left.
use Rattle.std.specs.Prelude.{◌≡◌, Bool, false, not, List, count_by, filter, map, nat_lt}
use Rattle.gf_shape.specs.declared.any_shape.AnyShape.{AnyShape}
use Rattle.gf_shape.specs.declared.outline.Outline.{Outline}
use Rattle.gf_shape.specs.declared.outline.Outline.TheVariants.{Chain}
use Rattle.gf_shape.specs.Edges.{Edge}
use Rattle.gf_shape.specs.FigureMeaning.{open_edges}
use Rattle.gf_shape.specs.Outlines.{any_outline}
use Rattle.gf_ops.specs.SamePoints.{point_eq}
use Rattle.gf_ops.specs.declared.op.ObjectId.{ObjectId}
use Rattle.gf_ops.specs.declared.op.Op.{Op}
use Rattle.gf_versions.specs.declared.placed.Placed.{Placed}
use Rattle.gf_versions.specs.Ranking.{AreRanked}

-- the edge leads from a point to another one
abbrev pub leads_on : Edge → Bool
leads_on (a, b) = not (point_eq a b)

-- the outline is a chain of which fewer than three edges lead to another point
abbrev pub is_thin : Outline → Bool
is_thin (Chain ring) = nat_lt (count_by leads_on (open_edges ring.points)) 3
is_thin other = false

-- the objects of the items that FIG draws so, in the order of the items
abbrev pub thin_polygons : List (Placed AnyShape) → List ObjectId
thin_polygons items = map (λ (i : Placed AnyShape). i.key.object)
    (filter (λ (i : Placed AnyShape). is_thin (any_outline i.shape)) items)

-- the objects are those of the visible versions of h that FIG draws so, topmost first
pub record AreThinOf (h : List Op) (objects : List ObjectId) : Type 0 where
  pub items : List (Placed AnyShape)
  pub ranked : AreRanked h items
  pub are : objects ≡ thin_polygons items
