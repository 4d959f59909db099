-- Worked examples of lines that create circles and polygons, checked by computing.
use Rattle.std.specs.Prelude.{◌≡◌, ℕ, List, [], ◌∷◌, ◌++◌, map, replicate}
use Rattle.std.specs.Prelude.{Ok, Err, refl, codes, pos, negsuc}
use Rattle.std.specs.Str.{is_utf8, chars}
use Rattle.std.specs.Fmt.{digits}
use Rattle.gf_ops.specs.declared.change.Form.TheVariants.{Polygon, Circle, Ellipse}
use Rattle.gf_ops.specs.Limits.{is_near}
use Rattle.gf_json.specs.declared.line_error.LineError.TheVariants as fault
use Rattle.gf_json.specs.OperationLines.{denoted}
use Rattle.test_definitions.specs.BoxLines.{red}
use Rattle.serde_json.proofs.OnLiterals.{serde_json_on_literals}

-- a line of this kind with this member for its form
abbrev pub shaped : List ℕ → List ℕ → List ℕ
shaped kind shape =
    codes "{" ++ shape ++ codes ",\"kind\":\"" ++ kind
    ++ codes "\",\"layer\":0,\"past\":[0,0,0,0,0,0,0,0],\"id\":[1,1],"
    ++ codes "\"colour\":\"ff0000\",\"op\":\"create\",\"place\":[100,200],\"shown\":true}"

pub red_circle_read : denoted (shaped (codes "circle") (codes "\"size\":[7,7]"))
    ≡ Ok (red (Circle 7))
unfolding serde_json_on_literals digits is_utf8 chars is_near
red_circle_read = refl

-- the two numbers of a circle are its radius
pub unequal_circles : map denoted
    (shaped (codes "circle") (codes "\"size\":[7,8]")
    ∷ shaped (codes "circle") (codes "\"size\":[7,1000001]") ∷ [])
    ≡ replicate 2 (Err fault.Field)
unfolding serde_json_on_literals digits is_utf8 chars
unequal_circles = refl

pub red_ellipse_read : denoted (shaped (codes "ellipse") (codes "\"size\":[3,2]"))
    ≡ Ok (red (Ellipse 3 2))
unfolding serde_json_on_literals digits is_utf8 chars is_near
red_ellipse_read = refl

pub red_polygon_read : denoted
    (shaped (codes "polygon") (codes "\"points\":[[0,0],[10,-20],[0,30]]"))
    ≡ Ok (red (Polygon (record { x = pos 0; y = pos 0 } ∷ record { x = pos 10; y = negsuc 19 }
    ∷ record { x = pos 0; y = pos 30 } ∷ [])))
unfolding serde_json_on_literals digits is_utf8 chars is_near
red_polygon_read = refl

-- no radius, no height, and two points
pub beyond_the_limits : map denoted
    (shaped (codes "circle") (codes "\"size\":[0,0]")
    ∷ shaped (codes "ellipse") (codes "\"size\":[3,0]")
    ∷ shaped (codes "polygon") (codes "\"points\":[[0,0],[10,20]]") ∷ [])
    ≡ replicate 3 (Err fault.Range)
unfolding serde_json_on_literals digits is_utf8 chars
beyond_the_limits = refl

-- an element of a wrong form comes before the count
pub polygon_of_two_with_a_fault : denoted
    (shaped (codes "polygon") (codes "\"points\":[[0,0],[10]]")) ≡ Err fault.Field
unfolding serde_json_on_literals digits is_utf8 chars
polygon_of_two_with_a_fault = refl

pub of_another_kind : map denoted
    (shaped (codes "box") (codes "\"points\":[[0,0],[10,20],[0,30]]")
    ∷ shaped (codes "polygon") (codes "\"size\":[7,7]")
    ∷ shaped (codes "star") (codes "\"size\":[7,7]") ∷ []) ≡ replicate 3 (Err fault.Field)
unfolding serde_json_on_literals digits is_utf8 chars
of_another_kind = refl
