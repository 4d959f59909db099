-- The move law and the outline law of each shape. No public clause cites this module.
use Rattle.std.specs.Prelude.{refl, List}
use Rattle.std.proofs.Common.{ap, sym}
use Rattle.gf_shape.specs.declared.any_shape.AnyShape.{AnyShape}
use Rattle.gf_shape.specs.declared.any_shape.AnyShape.TheVariants as any
use Rattle.gf_shape.specs.declared.outline.Outline.{Outline}
use Rattle.gf_shape.specs.declared.outline.Outline.TheVariants.{Chain, Disc, Oval}
use Rattle.gf_plane.specs.declared.point.Point.{Point}
use Rattle.gf_shape.specs.Area.{Area}
use Rattle.gf_shape.specs.FigureMeaning.{outline_holds}
use Rattle.gf_shape.specs.Outlines.{any_outline, polygon_outline, rect_outline}
use Rattle.gf_shape.specs.Round.{Round}
use Rattle.gf_shape.specs.Oblong.{Oblong}
use Rattle.gf_shape.specs.ShapeLaws.{IsMovedBy, IsOutlineOf}
use Rattle.gf_shape.specs.ShapeMeaning.{any_holds, box_holds, circle_holds, ellipse_holds}
use Rattle.gf_shape.specs.ShapeMeaning.{oval_holds, polygon_holds, rect_holds, round_holds}
use Rattle.gf_shape.specs.ShapeMoves.{any_moved, outline_moved, oval_moved, points_moved}
use Rattle.gf_shape.specs.ShapeMoves.{rect_moved, round_moved}
use Rattle.gf_shape.specs.Laws.BoxOutline.{chain_holds-corners_again}
use Rattle.gf_shape.specs.Laws.Moved.{chain_holds-moved, minus-moved, polygon_holds-moved}
use Rattle.gf_shape.specs.Laws.Parity.{polygon_holds_as_chain}

pub rect_moves : (a : Area) (d : Point) → IsMovedBy d (rect_holds a) (rect_holds (rect_moved a d))
rect_moves a d = λ p. ap (box_holds a.width a.height) (minus-moved p a.low d)

pub round_moves : (r : Round) (d : Point)
    → IsMovedBy d (round_holds r) (round_holds (round_moved r d))
round_moves r d = λ p. ap (circle_holds r.radius) (minus-moved p r.centre d)

pub oval_moves : (o : Oblong) (d : Point)
    → IsMovedBy d (oval_holds o) (oval_holds (oval_moved o d))
oval_moves o d = λ p. ap (ellipse_holds o.rx o.ry) (minus-moved p o.centre d)

pub polygon_moves : (ps : List Point) (d : Point)
    → IsMovedBy d (polygon_holds ps) (polygon_holds (points_moved ps d))
polygon_moves ps d = λ p. polygon_holds-moved ps d p

pub any_moves : (s : AnyShape) (d : Point) → IsMovedBy d (any_holds s) (any_holds (any_moved s d))
any_moves (any.Rect a) d = rect_moves a d
any_moves (any.Circle r) d = round_moves r d
any_moves (any.Ellipse o) d = oval_moves o d
any_moves (any.Polygon ps) d = polygon_moves ps d

pub outline_moves : (o : Outline) (d : Point)
    → IsMovedBy d (outline_holds o) (outline_holds (outline_moved o d))
outline_moves (Chain ring) d = λ p. chain_holds-moved ring.points d p
outline_moves (Disc round) d = round_moves round d
outline_moves (Oval oblong) d = oval_moves oblong d

pub rect_outlines : (a : Area) → IsOutlineOf (rect_holds a) (rect_outline a)
rect_outlines a = chain_holds-corners_again a

pub round_outlines : (r : Round) → IsOutlineOf (round_holds r) (Disc r)
round_outlines r = λ p. refl

pub oval_outlines : (o : Oblong) → IsOutlineOf (oval_holds o) (Oval o)
oval_outlines o = λ p. refl

pub polygon_outlines : (ps : List Point) → IsOutlineOf (polygon_holds ps) (polygon_outline ps)
polygon_outlines ps = λ p. sym (polygon_holds_as_chain ps p)

pub any_outlines : (s : AnyShape) → IsOutlineOf (any_holds s) (any_outline s)
any_outlines (any.Rect a) = rect_outlines a
any_outlines (any.Circle r) = round_outlines r
any_outlines (any.Ellipse o) = oval_outlines o
any_outlines (any.Polygon ps) = polygon_outlines ps
