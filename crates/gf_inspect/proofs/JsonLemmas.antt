-- Versions as JSON have no float.
use Rattle.std.proofs.Common.{◌≡◌, false, refl, codes, ◌∷◌}
use Rattle.std.specs.Prelude.{Option, Some, None}
use Rattle.gf_plane.specs.declared.point.Point.{Point}
use Rattle.gf_ops.specs.declared.change.Form.{Form}
use Rattle.gf_ops.specs.declared.change.Form.TheVariants.{Rect, Polygon, Circle, Ellipse}
use Rattle.gf_versions.specs.declared.key.Version.{Version}
use Rattle.serde_json.specs.Data.{Data, boolean}
use Rattle.serde_json.specs.Written.{has_float}
use Rattle.gf_json.specs.Notations.{object_of}
use Rattle.gf_json.specs.WrittenMembers.{form_members}
use Rattle.gf_json.specs.WrittenValues.{colour_data, ids_data, name_data, natural_data, point_data}
use Rattle.gf_json.proofs.WrittenLemmas.{has_float-ids_data, has_float-point_data}
use Rattle.gf_json.proofs.WrittenLemmas.{has_float-points_data}
use Rattle.gf_inspect.specs.declared.top.VersionName.{VersionName}
use Rattle.gf_inspect.specs.VersionJson.{top_data, version_data}

-- the version with the form f
abbrev data_with : Version → Form → Data
data_with v f = object_of (
    (codes "colour", colour_data v.colour)
    ∷ (codes "layer", natural_data v.key.layer)
    ∷ (codes "object", name_data v.key.object.0)
    ∷ (codes "operations", ids_data v.key.ops)
    ∷ (codes "place", point_data v.place)
    ∷ (codes "shown", boolean v.shown)
    ∷ form_members f)

has_float-with : (v : Version) (f : Form) → has_float (data_with v f) ≡ false
has_float-with v (Rect width height) =
    rw (has_float-ids_data v.key.ops, has_float-point_data v.place) refl
has_float-with v (Polygon ps) =
    rw (has_float-ids_data v.key.ops, has_float-point_data v.place, has_float-points_data ps) refl
has_float-with v (Circle radius) =
    rw (has_float-ids_data v.key.ops, has_float-point_data v.place) refl
has_float-with v (Ellipse rx ry) =
    rw (has_float-ids_data v.key.ops, has_float-point_data v.place) refl

pub has_float-version : (v : Version) → has_float (version_data v) ≡ false
has_float-version v = has_float-with v v.form

pub has_float-top : (p : Point) (name : Option VersionName) → has_float (top_data p name) ≡ false
has_float-top p (Some n) = rw (has_float-point_data p, has_float-ids_data n.ops) refl
has_float-top p None = rw (has_float-point_data p) refl
