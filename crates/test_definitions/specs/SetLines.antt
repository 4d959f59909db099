-- Worked examples of lines that set an attribute, checked by computing.
use Rattle.std.specs.Prelude.{◌≡◌, ℕ, List, [], ◌∷◌, ◌++◌, map, replicate}
use Rattle.std.specs.Prelude.{Ok, Err, refl, codes, pos, negsuc, false}
use Rattle.std.specs.Str.{is_utf8, chars}
use Rattle.std.specs.Fmt.{digits}
use Rattle.gf_ops.specs.declared.op.Op.{Op}
use Rattle.gf_ops.specs.declared.op.OpId.{OpId}
use Rattle.gf_ops.specs.declared.change.Change.TheVariants.{Set}
use Rattle.gf_ops.specs.declared.change.Value.{Value}
use Rattle.gf_ops.specs.declared.change.Value.TheVariants as value
use Rattle.gf_ops.specs.Limits.{is_near}
use Rattle.gf_json.specs.declared.line_error.LineError.TheVariants as fault
use Rattle.gf_json.specs.OperationLines.{denoted}
use Rattle.serde_json.proofs.OnLiterals.{serde_json_on_literals}

-- the second operation of site 1, which gives the value v to the first object and aims at these ids
abbrev pub aims_to : List OpId → Value → Op
aims_to ids v = record {
  id = record { site = 1; seq = 2 };
  past = record { 0 = 1 ∷ replicate 7 0 };
  change = Set (record { 0 = record { site = 1; seq = 1 } }) v ids;
}

-- the same operation without an aim
abbrev pub sets_to : Value → Op
sets_to v = aims_to [] v

-- the blue of an object
abbrev pub blue : Value
blue = value.Colour (record { r = 0; g = 0; b = 255 })

pub blue_read : denoted
    (codes "{\"id\":[1,2],\"object\":[1,1],\"op\":\"set\",\"past\":[1,0,0,0,0,0,0,0],"
    ++ codes "\"set\":\"colour\",\"to\":\"0000ff\"}") ≡ Ok (sets_to blue)
unfolding serde_json_on_literals digits is_utf8 chars
blue_read = refl

-- a line of this object, this attribute and this value
abbrev pub line : List ℕ → List ℕ → List ℕ → List ℕ
line object attribute to =
    codes "{\"to\":" ++ to ++ codes ",\"set\":\"" ++ attribute ++ codes "\",\"object\":" ++ object
    ++ codes ", \"id\":[1,2],\"op\":\"set\",\"past\":[1,0,0,0,0,0,0,0]}"

pub place_read : denoted (line (codes "[1,1]") (codes "place") (codes "[-5,0]"))
    ≡ Ok (sets_to (value.Place (record { x = negsuc 4; y = pos 0 })))
unfolding serde_json_on_literals digits is_utf8 chars is_near
place_read = refl

pub points_read : denoted (line (codes "[1,1]") (codes "points") (codes "[[0,0],[1,0],[0,1]]"))
    ≡ Ok (sets_to (value.Points (record { x = pos 0; y = pos 0 } ∷ record {
      x = pos 1;
      y = pos 0;
    } ∷ record { x = pos 0; y = pos 1 } ∷ [])))
unfolding serde_json_on_literals digits is_utf8 chars is_near
points_read = refl

-- a line is read whether or not the value suits the object
pub unequal_size_read : denoted (line (codes "[1,1]") (codes "size") (codes "[7,8]"))
    ≡ Ok (sets_to (value.Size 7 8))
unfolding serde_json_on_literals digits is_utf8 chars
unequal_size_read = refl

pub layer_read : denoted (line (codes "[1,1]") (codes "layer") (codes "9999"))
    ≡ Ok (sets_to (value.Layer 9999))
unfolding serde_json_on_literals digits is_utf8 chars
layer_read = refl

pub shown_read : denoted (line (codes "[1,1]") (codes "shown") (codes "false"))
    ≡ Ok (sets_to (value.Shown false))
unfolding serde_json_on_literals digits is_utf8 chars
shown_read = refl

-- a layer, two points, and the site of the object
pub beyond_the_limits : map denoted
    (line (codes "[1,1]") (codes "layer") (codes "10000")
    ∷ line (codes "[1,1]") (codes "points") (codes "[[0,0],[1,0]]")
    ∷ line (codes "[9,1]") (codes "layer") (codes "0") ∷ []) ≡ replicate 3 (Err fault.Range)
unfolding serde_json_on_literals digits is_utf8 chars
beyond_the_limits = refl

-- a fault of form comes before those of limits
pub field_before_range : denoted (line (codes "[9,1]") (codes "layer") (codes "null"))
    ≡ Err fault.Field
unfolding serde_json_on_literals digits is_utf8 chars
field_before_range = refl

-- another attribute, the form of another one, and another key
pub of_another_form : map denoted
    (line (codes "[1,1]") (codes "kind") (codes "0")
    ∷ line (codes "[1,1]") (codes "layer") (codes "true")
    ∷ line (codes "[1,1]") (codes "layer") (codes "-1,\"x\":0") ∷ [])
    ≡ replicate 3 (Err fault.Field)
unfolding serde_json_on_literals digits is_utf8 chars
of_another_form = refl
