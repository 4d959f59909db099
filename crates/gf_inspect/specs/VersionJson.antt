-- Versions and what is on top at a point as lines of JSON (this project's choice).
use Rattle.std.specs.Prelude.{ℕ, List, [], ◌∷◌, Option, Some, None, codes}
use Rattle.serde_json.specs.Data.{Data, boolean}
use Rattle.gf_json.specs.Notations.{object_of}
use Rattle.gf_json.specs.WrittenMembers.{form_members}
use Rattle.gf_json.specs.WrittenValues.{colour_data, ids_data, name_data, natural_data, point_data}
use Rattle.gf_plane.specs.declared.point.Point.{Point}
use Rattle.gf_ops.specs.declared.op.ObjectId.{ObjectId}
use Rattle.gf_versions.specs.declared.key.Version.{Version}
use Rattle.gf_inspect.specs.declared.top.VersionName.{VersionName}

-- a version: its object, its operations and its values
abbrev pub version_data : Version → Data
version_data v = object_of (
    (codes "colour", colour_data v.colour)
    ∷ (codes "layer", natural_data v.key.layer)
    ∷ (codes "object", name_data v.key.object.0)
    ∷ (codes "operations", ids_data v.key.ops)
    ∷ (codes "place", point_data v.place)
    ∷ (codes "shown", boolean v.shown)
    ∷ form_members v.form)

-- the object o has more than 1,000 versions
abbrev pub many_data : ObjectId → Data
many_data o =
    object_of ((codes "object", name_data o.0) ∷ (codes "versions", natural_data 1001) ∷ [])

-- the members for a version's name, if there is one
abbrev pub name_members : Option VersionName → List (List ℕ × Data)
name_members (Some n) =
    (codes "object", name_data n.object.0) ∷ (codes "operations", ids_data n.ops) ∷ []
name_members None = []

-- what is on top at the point p; without an object this is the ground
abbrev pub top_data : Point → Option VersionName → Data
top_data p name = object_of ((codes "at", point_data p) ∷ name_members name)
