-- The texts of versions and of what is on top at a point, in words (this project's choice; numbers
-- are decimal).
use Rattle.std.specs.Prelude.{ℕ, Bool, true, false, List, [], ◌∷◌, ◌++◌, Option, Some}
use Rattle.std.specs.Prelude.{None, flat_map, codes}
use Rattle.std.specs.Fmt.{decimal, signed_decimal}
use Rattle.gf_plane.specs.HexDigits.{hex_rgb}
use Rattle.gf_plane.specs.declared.colour.Rgb.{Rgb}
use Rattle.gf_plane.specs.declared.point.Point.{Point}
use Rattle.gf_ops.specs.declared.op.OpId.{OpId}
use Rattle.gf_ops.specs.declared.op.ObjectId.{ObjectId}
use Rattle.gf_ops.specs.declared.change.Form.{Form}
use Rattle.gf_ops.specs.declared.change.Form.TheVariants.{Rect, Circle, Ellipse, Polygon}
use Rattle.gf_ops.specs.IdText.{id_text, spaced_ids_text}
use Rattle.gf_versions.specs.declared.key.Version.{Version}
use Rattle.gf_inspect.specs.declared.top.VersionName.{VersionName}

-- ids with blanks between them
abbrev pub ids_text : List OpId → List ℕ
ids_text [] = []
ids_text (i ∷ ids) = id_text i ++ spaced_ids_text ids

-- an object, and the ids of a version of it in brackets
unfoldable pub name_text : ObjectId → List OpId → List ℕ
name_text o ids = id_text o.0 ++ codes " [" ++ ids_text ids ++ codes "]"

-- both coordinates of a point
abbrev pub point_text : Point → List ℕ
point_text p = signed_decimal p.x ++ codes " " ++ signed_decimal p.y

-- a blank, and both coordinates of a corner
abbrev pub corner_text : Point → List ℕ
corner_text p = codes " " ++ signed_decimal p.x ++ codes "," ++ signed_decimal p.y

-- the word for the kind of a form
abbrev pub kind_word : Form → List ℕ
kind_word (Rect width height) = codes "box"
kind_word (Circle radius) = codes "circle"
kind_word (Ellipse rx ry) = codes "ellipse"
kind_word (Polygon ps) = codes "polygon"

-- a width and a height, or two radii
abbrev pub size_text : ℕ → ℕ → List ℕ
size_text width height = codes " size " ++ decimal width ++ codes " " ++ decimal height

-- the points of a polygon, seen from its place
abbrev pub points_text : List Point → List ℕ
points_text ps = codes " points" ++ flat_map corner_text ps

-- the size of a form, which for a circle is its radius twice, or its points
abbrev pub measure_text : Form → List ℕ
measure_text (Rect width height) = size_text width height
measure_text (Circle radius) = size_text radius radius
measure_text (Ellipse rx ry) = size_text rx ry
measure_text (Polygon ps) = points_text ps

-- a colour in six hexadecimal digits
abbrev pub colour_text : Rgb → List ℕ
colour_text c = codes " colour " ++ hex_rgb c

-- a layer
abbrev pub layer_text : ℕ → List ℕ
layer_text layer = codes " layer " ++ decimal layer

-- whether a version is shown
abbrev pub shown_word : Bool → List ℕ
shown_word true = codes "shown"
shown_word false = codes "hidden"

-- the kind of a version, its place, and its size or points
unfoldable pub form_text : Version → List ℕ
form_text v = codes " " ++ kind_word v.form ++ codes " place " ++ point_text v.place
    ++ measure_text v.form

-- the colour of a version, its layer, and whether it is shown
unfoldable pub look_text : Version → List ℕ
look_text v = colour_text v.colour ++ layer_text v.key.layer ++ codes " " ++ shown_word v.shown

-- the line of a version
unfoldable pub version_line : Version → List ℕ
version_line v = codes "version " ++ name_text v.key.object v.key.ops ++ form_text v ++ look_text v
    ++ codes "\n"

-- the line that the object o has more than 1,000 versions
unfoldable pub many_line : ObjectId → List ℕ
many_line o = codes "object " ++ id_text o.0 ++ codes " has more than 1000 versions\n"

-- the name of what is on top
abbrev pub top_text : Option VersionName → List ℕ
top_text (Some n) = name_text n.object n.ops
top_text None = codes "white"

-- the line of what is on top at the point p
abbrev pub top_line : Point → Option VersionName → List ℕ
top_line p name = codes "top " ++ point_text p ++ codes " is " ++ top_text name ++ codes "\n"
