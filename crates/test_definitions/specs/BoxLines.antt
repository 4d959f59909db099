-- Worked examples of lines that create a box, checked by computing.
use Rattle.std.specs.Prelude.{◌≡◌, ℕ, List, [], ◌∷◌, ◌++◌, map, replicate}
use Rattle.std.specs.Prelude.{Ok, Err, refl, codes, true, pos}
use Rattle.std.specs.Str.{is_utf8, chars}
use Rattle.std.specs.Fmt.{digits}
use Rattle.gf_ops.specs.declared.op.Op.{Op}
use Rattle.gf_ops.specs.declared.change.Form.{Form}
use Rattle.gf_ops.specs.declared.change.Form.TheVariants.{Rect}
use Rattle.gf_ops.specs.declared.change.Change.TheVariants.{Create}
use Rattle.gf_ops.specs.Limits.{is_near}
use Rattle.gf_json.specs.declared.line_error.LineError.TheVariants as fault
use Rattle.gf_json.specs.OperationLines.{denoted}
use Rattle.serde_json.proofs.OnLiterals.{serde_json_on_literals}

-- the first operation of site 1: a red object of the form f
abbrev pub red : Form → Op
red f = record {
  id = record { site = 1; seq = 1 };
  past = record { 0 = replicate 8 0 };
  change = Create (record {
    form = f;
    place = record { x = pos 100; y = pos 200 };
    colour = record { r = 255; g = 0; b = 0 };
    layer = 0;
    shown = true;
  });
}

-- a red box
abbrev pub red_box : Op
red_box = red (Rect 300 400)

pub red_box_read : denoted
    (codes "{\"colour\":\"ff0000\",\"id\":[1,1],\"kind\":\"box\",\"layer\":0,"
    ++ codes "\"op\":\"create\",\"past\":[0,0,0,0,0,0,0,0],\"place\":[100,200],"
    ++ codes "\"shown\":true,\"size\":[300,400]}") ≡ Ok red_box
unfolding serde_json_on_literals digits is_utf8 chars is_near
red_box_read = refl

-- a line in another order and with upper-case digits
abbrev pub line : List ℕ → List ℕ → List ℕ → List ℕ → List ℕ
line id past layer size =
    codes "{\"size\":" ++ size ++ codes ",\"layer\":" ++ layer ++ codes ",\"past\":" ++ past
    ++ codes ", \"id\" :" ++ id
    ++ codes ",\"colour\":\"FF0000\",\"kind\":\"box\",\"op\":\"create\","
    ++ codes "\"place\":[100,200],\"shown\":true}"

abbrev pub zeros : List ℕ
zeros = codes "[0,0,0,0,0,0,0,0]"

pub red_box_written_otherwise : denoted
    (line (codes "[1, 1]") zeros (codes "0") (codes "[300,400]")) ≡ Ok red_box
unfolding serde_json_on_literals digits is_utf8 chars is_near
red_box_written_otherwise = refl

-- of a repeated key the last value stands
pub the_last_layer_stands : denoted
    (line (codes "[1,1]") zeros (codes "9999,\"layer\":0") (codes "[300,400]")) ≡ Ok red_box
unfolding serde_json_on_literals digits is_utf8 chars is_near
the_last_layer_stands = refl

-- a line of the red box on the layer of this text
abbrev pub layered : List ℕ → List ℕ
layered layer = line (codes "[1,1]") zeros layer (codes "[300,400]")

pub layers_beyond_the_limits : map denoted
    (layered (codes "10000") ∷ layered (codes "-1") ∷ []) ≡ replicate 2 (Err fault.Range)
unfolding serde_json_on_literals digits is_utf8 chars is_near
layers_beyond_the_limits = refl

-- serde_json reads -0 as a float; the fourth is 2 ^ 63, and behind the last stands another key
pub layers_of_another_form : map denoted
    (layered (codes "1.0") ∷ layered (codes "1e3") ∷ layered (codes "-0")
    ∷ layered (codes "9223372036854775808") ∷ layered (codes "0,\"to\":0") ∷ [])
    ≡ replicate 5 (Err fault.Field)
unfolding serde_json_on_literals digits is_utf8 chars
layers_of_another_form = refl

-- a site, a past and a size
pub beyond_the_limits : map denoted
    (line (codes "[9,1]") zeros (codes "0") (codes "[300,400]")
    ∷ line (codes "[1,1]") (codes "[0,0,0,0,0,0,0,10001]") (codes "0") (codes "[300,400]")
    ∷ line (codes "[1,1]") zeros (codes "0") (codes "[300,0]") ∷ [])
    ≡ replicate 3 (Err fault.Range)
unfolding serde_json_on_literals digits is_utf8 chars
beyond_the_limits = refl

-- a past of seven numbers; and a size of another form, which comes before a site and a layer
pub of_another_form : map denoted
    (line (codes "[1,1]") (codes "[0,0,0,0,0,0,0]") (codes "0") (codes "[300,400]")
    ∷ line (codes "[9,1]") zeros (codes "10000") (codes "[300,null]") ∷ [])
    ≡ replicate 2 (Err fault.Field)
unfolding serde_json_on_literals digits is_utf8 chars
of_another_form = refl

pub no_keys_or_no_object : map denoted (codes "{}" ∷ codes "[]" ∷ [])
    ≡ replicate 2 (Err fault.Field)
unfolding serde_json_on_literals digits is_utf8 chars
no_keys_or_no_object = refl

-- a line that is cut short, and a byte that is no UTF-8 inside a string
pub no_json : map denoted (codes "{" ∷ (codes "{\"" ++ 255 ∷ codes "\":0}") ∷ [])
    ≡ replicate 2 (Err fault.Json)
unfolding serde_json_on_literals digits is_utf8 chars
no_json = refl
