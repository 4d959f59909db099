-- Visible versions, and which points one holds (this project's choice).
use Rattle.std.specs.Prelude.{List, Bool, IsTrue}
use Rattle.gf_plane.specs.declared.point.Point.{Point}
use Rattle.gf_plane.specs.Moving.{minus}
use Rattle.gf_shape.specs.ShapeMeaning.{box_holds, circle_holds, ellipse_holds, polygon_holds}
use Rattle.gf_ops.specs.declared.op.Op.{Op}
use Rattle.gf_ops.specs.declared.change.Form.{Form}
use Rattle.gf_ops.specs.declared.change.Form.TheVariants.{Rect, Circle, Ellipse, Polygon}
use Rattle.gf_versions.specs.declared.key.Version.{Version}
use Rattle.gf_versions.specs.VersionOf.{IsVersionOf}

-- v is a version of h that is shown
pub record IsVisible (h : List Op) (v : Version) : Type 0 where
  pub version : IsVersionOf h v
  pub shown : IsTrue v.shown

-- a form holds d, seen from its place
abbrev pub form_holds : Form → Point → Bool
form_holds (Rect width height) d = box_holds width height d
form_holds (Circle radius) d = circle_holds radius d
form_holds (Ellipse rx ry) d = ellipse_holds rx ry d
form_holds (Polygon ps) d = polygon_holds ps d

-- v holds p, with its settled form at its settled place
abbrev pub version_holds : Version → Point → Bool
version_holds v p = form_holds v.form (minus p v.place)
