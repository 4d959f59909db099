-- The values of a written line (RFC 8259 by serde_json's value; forms are this project's choice).
use Rattle.std.specs.Prelude.{ℕ, ℤ, List, [], ◌∷◌, map}
use Rattle.gf_plane.specs.HexDigits.{hex_rgb}
use Rattle.gf_plane.specs.declared.point.Point.{Point}
use Rattle.gf_plane.specs.declared.colour.Rgb.{Rgb}
use Rattle.gf_ops.specs.declared.op.OpId.{OpId}
use Rattle.gf_ops.specs.declared.op.Clock.{Clock}
use Rattle.gf_ops.specs.declared.change.Value.{Value}
use Rattle.gf_ops.specs.declared.change.Value.TheVariants as value
use Rattle.serde_json.specs.Data.{Data, boolean, number, unsigned, string, array}
use Rattle.serde_json.specs.Find.{of_integer}
use Rattle.serde_json.specs.View.{items_of}

-- a number from 0
abbrev pub natural_data : ℕ → Data
natural_data n = number (unsigned n)

-- a number
abbrev pub integer_data : ℤ → Data
integer_data n = number (of_integer n)

-- an array of two
abbrev pub pair_data : Data → Data → Data
pair_data a b = array (items_of (a ∷ b ∷ []))

-- a name: its site and its number there
abbrev pub name_data : OpId → Data
name_data i = pair_data (natural_data i.site) (natural_data i.seq)

-- the ids of an aim
abbrev pub ids_data : List OpId → Data
ids_data ids = array (items_of (map name_data ids))

-- the entries of a clock
abbrev pub clock_data : Clock → Data
clock_data c = array (items_of (map natural_data c.0))

-- a point, by its two coordinates
abbrev pub point_data : Point → Data
point_data p = pair_data (integer_data p.x) (integer_data p.y)

-- the points of a polygon
abbrev pub points_data : List Point → Data
points_data ps = array (items_of (map point_data ps))

-- a width and a height, or two radii
abbrev pub size_data : ℕ → ℕ → Data
size_data width height = pair_data (natural_data width) (natural_data height)

-- a colour in six hexadecimal digits: red, green, blue
abbrev pub colour_data : Rgb → Data
colour_data c = string (hex_rgb c)

-- the value v in the form of its attribute
abbrev pub value_data : Value → Data
value_data (value.Place p) = point_data p
value_data (value.Points ps) = points_data ps
value_data (value.Size width height) = size_data width height
value_data (value.Colour c) = colour_data c
value_data (value.Layer n) = natural_data n
value_data (value.Shown b) = boolean b
