-- Which limit of operations the object of a figure breaks (this project's choice).
use Rattle.std.specs.Prelude.{Bool, ◌&&◌, nat_le, List, length, Option, None, Some}
use Rattle.std.specs.Prelude.{if◌then◌else◌}
use Rattle.std.specs.List.{list_all}
use Rattle.gf_shape.specs.declared.outline.Outline.{Outline}
use Rattle.gf_plane.specs.declared.point.Point.{Point}
use Rattle.gf_ops.specs.declared.change.Form.{Form}
use Rattle.gf_ops.specs.declared.change.Form.TheVariants.{Rect, Circle, Ellipse, Polygon}
use Rattle.gf_ops.specs.declared.change.Start.{Start}
use Rattle.gf_ops.specs.Limits.{is_near, is_size}
use Rattle.gf_figures.specs.declared.figure.Figure.{Figure}
use Rattle.gf_figures.specs.Colours.{Table}
use Rattle.gf_objects.specs.Objects.{start_of}
use Rattle.gf_objects.specs.declared.figure_fault.FigureFault.{FigureFault}
use Rattle.gf_objects.specs.declared.figure_fault.FigureFault.TheVariants as fault

-- the fault, unless the test holds
abbrev pub unless : Bool → FigureFault → Option FigureFault
unless ok f = if ok then None else Some f

-- the first limit that the points of a polygon break
abbrev pub points_fault : List Point → Option FigureFault
points_fault ps =
    if nat_le (length ps) 64
    then unless (list_all is_near ps) fault.Point
    else Some fault.Points

-- the first limit that the form breaks
abbrev pub form_fault : Form → Option FigureFault
form_fault (Rect width height) = unless (is_size width && is_size height) fault.Size
form_fault (Circle radius) = unless (is_size radius) fault.Size
form_fault (Ellipse rx ry) = unless (is_size rx && is_size ry) fault.Size
form_fault (Polygon ps) = points_fault ps

-- the first limit that s breaks: of its place, then of its form
abbrev pub start_fault : Start → Option FigureFault
start_fault s = if is_near s.place then form_fault s.form else Some fault.Place

-- the first limit that what the figure f becomes breaks
abbrev pub figure_fault : Table → Figure Outline → Option FigureFault
figure_fault table f = start_fault (start_of table f)
