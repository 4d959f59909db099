-- Worked examples of script lines, checked by computing.
use Rattle.std.specs.Prelude.{◌≡◌, [], ◌∷◌, ◌++◌, map, replicate, Ok, Err, refl}
use Rattle.std.specs.Prelude.{codes, pos, true}
use Rattle.std.specs.Str.{is_utf8, chars}
use Rattle.std.specs.Fmt.{digits}
use Rattle.gf_ops.specs.declared.change.Form.TheVariants.{Rect}
use Rattle.gf_ops.specs.declared.change.Change.TheVariants.{Create, Set}
use Rattle.gf_ops.specs.Limits.{is_near}
use Rattle.gf_json.specs.declared.line_error.LineError.TheVariants as fault
use Rattle.gf_json.specs.declared.scripts.Command.TheVariants.{Author, Await}
use Rattle.gf_json.specs.OperationLines.{denoted}
use Rattle.gf_json.specs.ScriptLines.{script_denoted}
use Rattle.test_definitions.specs.SetLines.{blue}
use Rattle.serde_json.proofs.OnLiterals.{serde_json_on_literals}

pub create_read : script_denoted
    (codes "{\"site\":1,\"do\":\"create\",\"kind\":\"box\",\"place\":[0,0],"
    ++ codes "\"size\":[10,10],\"colour\":\"ff0000\",\"layer\":0,\"shown\":true}")
    ≡ Ok (record {
      site = 1;
      command = Author (Create (record {
        form = Rect 10 10;
        place = record { x = pos 0; y = pos 0 };
        colour = record { r = 255; g = 0; b = 0 };
        layer = 0;
        shown = true;
      }));
    })
unfolding serde_json_on_literals digits is_utf8 chars is_near
create_read = refl

pub await_read : script_denoted (codes "{\"site\":2,\"do\":\"await\",\"id\":[1,1]}")
    ≡ Ok (record { site = 2; command = Await (record { site = 1; seq = 1 }) })
unfolding serde_json_on_literals digits is_utf8 chars
await_read = refl

pub set_read : script_denoted (codes
    "{\"site\":2,\"do\":\"set\",\"object\":[1,1],\"set\":\"colour\",\"to\":\"0000ff\"}")
    ≡ Ok (record {
      site = 2;
      command = Author
          (Set (record { 0 = record { site = 1; seq = 1 } }) blue []);
    })
unfolding serde_json_on_literals digits is_utf8 chars
set_read = refl

pub later_await_read : script_denoted (codes "{\"site\":2,\"do\":\"await\",\"id\":[1,9]}")
    ≡ Ok (record { site = 2; command = Await (record { site = 1; seq = 9 }) })
unfolding serde_json_on_literals digits is_utf8 chars
later_await_read = refl

pub no_operation : denoted (codes "{\"site\":1,\"do\":\"create\",\"kind\":\"box\",\"place\":[0,0],"
    ++ codes "\"size\":[10,10],\"colour\":\"ff0000\",\"layer\":0,\"shown\":true}")
    ≡ Err fault.Field
unfolding serde_json_on_literals digits is_utf8 chars
no_operation = refl

-- a past and an id too many, an id too few, and another command; the last but one is of site 9, too
pub of_another_form : map script_denoted
    ((codes "{\"site\":1,\"do\":\"create\",\"kind\":\"box\",\"place\":[0,0],"
    ++ codes "\"size\":[10,10],\"colour\":\"ff0000\",\"layer\":0,\"shown\":true,"
    ++ codes "\"past\":[0,0,0,0,0,0,0,0]}")
    ∷ (codes "{\"site\":2,\"do\":\"set\",\"id\":[1,1],\"object\":[1,1],\"set\":\"colour\","
    ++ codes "\"to\":\"0000ff\"}")
    ∷ codes "{\"site\":2,\"do\":\"await\"}"
    ∷ codes "{\"site\":9,\"do\":\"await\",\"id\":[1]}"
    ∷ codes "{\"site\":2,\"do\":\"wait\",\"id\":[1,1]}" ∷ []) ≡ replicate 5 (Err fault.Field)
unfolding serde_json_on_literals digits is_utf8 chars
of_another_form = refl

pub of_another_site : map script_denoted
    (codes "{\"site\":9,\"do\":\"await\",\"id\":[1,1]}"
    ∷ codes "{\"site\":0,\"do\":\"set\",\"object\":[1,1],\"set\":\"colour\",\"to\":\"0000ff\"}"
    ∷ []) ≡ replicate 2 (Err fault.Range)
unfolding serde_json_on_literals digits is_utf8 chars
of_another_site = refl
