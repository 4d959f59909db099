-- Tests for a conflict: whether two changes give an attribute different values (after Sun and Chen,
-- ACM TOCHI 9(1), 2002).
use Rattle.std.specs.Prelude.{Bool, false, not, ◌&&◌, ◌||◌, ◌==◌, Option, Some, None}
use Rattle.std.specs.Bool.{beq}
use Rattle.gf_plane.specs.declared.colour.Rgb.{Rgb}
use Rattle.gf_ops.specs.declared.change.Start.{Start}
use Rattle.gf_ops.specs.declared.change.Change.{Change}
use Rattle.gf_ops.specs.declared.change.Change.TheVariants.{Create, Set}
use Rattle.gf_ops.specs.declared.change.Value.{Value}
use Rattle.gf_ops.specs.declared.change.Value.TheVariants.{Place, Points, Size, Colour, Layer}
use Rattle.gf_ops.specs.declared.change.Value.TheVariants.{Shown}
use Rattle.gf_ops.specs.Attribute.{attribute_of, change_value, form_value}
use Rattle.gf_ops.specs.SamePoints.{point_eq, points_eq}

-- c and d are one colour
abbrev pub colour_eq : Rgb → Rgb → Bool
colour_eq c d = c.r == d.r && c.g == d.g && c.b == d.b

-- v and w are one value of one attribute
abbrev pub value_eq : Value → Value → Bool
value_eq (Place p) (Place q) = point_eq p q
value_eq (Points ps) (Points qs) = points_eq ps qs
value_eq (Size v j) (Size w k) = v == w && j == k
value_eq (Colour c) (Colour d) = colour_eq c d
value_eq (Layer m) (Layer n) = m == n
value_eq (Shown b) (Shown c) = beq b c
value_eq (Place p) w = false
value_eq (Points ps) w = false
value_eq (Size v j) w = false
value_eq (Colour c) w = false
value_eq (Layer m) w = false
value_eq (Shown b) w = false

-- a value is given, and it is not w
abbrev pub is_another : Option Value → Value → Bool
is_another None w = false
is_another (Some v) w = not (value_eq v w)

-- the change c gives the attribute of w another value
abbrev pub sets_another : Change → Value → Bool
sets_another c w = is_another (change_value c (attribute_of w)) w

-- an attribute that begins with a value in s and in t begins with different ones
abbrev pub begins_apart : Start → Start → Bool
begins_apart s t =
    sets_another (Create s) (Place t.place) || sets_another (Create s) (Colour t.colour)
    || sets_another (Create s) (Layer t.layer)
    || sets_another (Create s) (Shown t.shown) || sets_another (Create s) (form_value t.form)

-- two changes give an attribute different values
abbrev pub are_apart : Change → Change → Bool
are_apart c (Set o w aim) = sets_another c w
are_apart (Set o v aim) (Create start) = sets_another (Create start) v
are_apart (Create s) (Create t) = begins_apart s t
