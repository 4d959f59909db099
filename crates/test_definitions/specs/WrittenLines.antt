-- Worked examples of written lines, checked by computing.
use Rattle.std.specs.Prelude.{◌≡◌, [], ◌∷◌, refl, codes, pos, negsuc, false, ◌++◌}
use Rattle.std.specs.Fmt.{digits}
use Rattle.gf_ops.specs.declared.change.Form.TheVariants.{Polygon, Circle, Ellipse}
use Rattle.gf_ops.specs.declared.change.Value.TheVariants as value
use Rattle.gf_json.specs.WrittenLines.{op_text}
use Rattle.test_definitions.specs.BoxLines.{red, red_box}
use Rattle.test_definitions.specs.SetLines.{sets_to, blue}
use Rattle.serde_json.proofs.OnLiterals.{serde_json_on_literals}

pub red_box_written : op_text red_box
    ≡ codes "{\"colour\":\"ff0000\",\"id\":[1,1],\"kind\":\"box\",\"layer\":0,"
    ++ codes "\"op\":\"create\",\"past\":[0,0,0,0,0,0,0,0],\"place\":[100,200],"
    ++ codes "\"shown\":true,\"size\":[300,400]}"
unfolding serde_json_on_literals digits
red_box_written = refl

pub red_circle_written : op_text (red (Circle 7))
    ≡ codes "{\"colour\":\"ff0000\",\"id\":[1,1],\"kind\":\"circle\",\"layer\":0,"
    ++ codes "\"op\":\"create\",\"past\":[0,0,0,0,0,0,0,0],\"place\":[100,200],"
    ++ codes "\"shown\":true,\"size\":[7,7]}"
unfolding serde_json_on_literals digits
red_circle_written = refl

pub red_ellipse_written : op_text (red (Ellipse 3 2))
    ≡ codes "{\"colour\":\"ff0000\",\"id\":[1,1],\"kind\":\"ellipse\",\"layer\":0,"
    ++ codes "\"op\":\"create\",\"past\":[0,0,0,0,0,0,0,0],\"place\":[100,200],"
    ++ codes "\"shown\":true,\"size\":[3,2]}"
unfolding serde_json_on_literals digits
red_ellipse_written = refl

pub red_polygon_written : op_text
    (red (Polygon (record { x = pos 0; y = pos 0 } ∷ record { x = pos 10; y = negsuc 19 }
    ∷ record { x = pos 0; y = pos 30 } ∷ [])))
    ≡ codes "{\"colour\":\"ff0000\",\"id\":[1,1],\"kind\":\"polygon\",\"layer\":0,"
    ++ codes "\"op\":\"create\",\"past\":[0,0,0,0,0,0,0,0],\"place\":[100,200],"
    ++ codes "\"points\":[[0,0],[10,-20],[0,30]],\"shown\":true}"
unfolding serde_json_on_literals digits
red_polygon_written = refl

pub blue_written : op_text (sets_to blue)
    ≡ codes "{\"id\":[1,2],\"object\":[1,1],\"op\":\"set\",\"past\":[1,0,0,0,0,0,0,0],"
    ++ codes "\"set\":\"colour\",\"to\":\"0000ff\"}"
unfolding serde_json_on_literals digits
blue_written = refl

pub place_written : op_text (sets_to (value.Place (record { x = negsuc 4; y = pos 0 })))
    ≡ codes "{\"id\":[1,2],\"object\":[1,1],\"op\":\"set\",\"past\":[1,0,0,0,0,0,0,0],"
    ++ codes "\"set\":\"place\",\"to\":[-5,0]}"
unfolding serde_json_on_literals digits
place_written = refl

pub size_written : op_text (sets_to (value.Size 7 8))
    ≡ codes "{\"id\":[1,2],\"object\":[1,1],\"op\":\"set\",\"past\":[1,0,0,0,0,0,0,0],"
    ++ codes "\"set\":\"size\",\"to\":[7,8]}"
unfolding serde_json_on_literals digits
size_written = refl

pub layer_written : op_text (sets_to (value.Layer 9999))
    ≡ codes "{\"id\":[1,2],\"object\":[1,1],\"op\":\"set\",\"past\":[1,0,0,0,0,0,0,0],"
    ++ codes "\"set\":\"layer\",\"to\":9999}"
unfolding serde_json_on_literals digits
layer_written = refl

pub hidden_written : op_text (sets_to (value.Shown false))
    ≡ codes "{\"id\":[1,2],\"object\":[1,1],\"op\":\"set\",\"past\":[1,0,0,0,0,0,0,0],"
    ++ codes "\"set\":\"shown\",\"to\":false}"
unfolding serde_json_on_literals digits
hidden_written = refl
