-- Worked examples of lines that aim at operations, checked by computing.
use Rattle.std.specs.Prelude.{◌≡◌, ℕ, List, [], ◌∷◌, ◌++◌, map, replicate}
use Rattle.std.specs.Prelude.{Ok, Err, refl, codes}
use Rattle.std.specs.Str.{is_utf8, chars}
use Rattle.std.specs.Fmt.{digits}
use Rattle.gf_ops.specs.declared.op.Op.{Op}
use Rattle.gf_ops.specs.declared.op.OpId.{OpId}
use Rattle.gf_ops.specs.declared.change.Change.{Change}
use Rattle.gf_ops.specs.declared.change.Change.TheVariants.{Set}
use Rattle.gf_ops.specs.declared.change.Value.TheVariants as value
use Rattle.gf_json.specs.declared.line_error.LineError.TheVariants as fault
use Rattle.gf_json.specs.declared.scripts.Command.TheVariants.{Author}
use Rattle.gf_json.specs.OperationLines.{denoted}
use Rattle.gf_json.specs.ScriptLines.{script_denoted}
use Rattle.gf_json.specs.WrittenLines.{op_text}
use Rattle.test_definitions.specs.SetLines.{aims_to, sets_to, line}
use Rattle.serde_json.proofs.OnLiterals.{serde_json_on_literals}

-- the line that sets the layer 5 and has this aim
abbrev pub aimed : List ℕ → List ℕ
aimed aim = line (codes "[1,1]") (codes "layer") (codes "5,\"aim\":" ++ aim)

-- the operation of a line with this aim
abbrev pub aims_at : List OpId → Op
aims_at ids = aims_to ids (value.Layer 5)

-- the first operation of the site s
abbrev pub first_of : ℕ → OpId
first_of s = record { site = s; seq = 1 }

pub aim_read : denoted (aimed (codes "[[1,1],[2,1]]"))
    ≡ Ok (aims_at (first_of 1 ∷ first_of 2 ∷ []))
unfolding serde_json_on_literals digits is_utf8 chars
aim_read = refl

pub empty_aim_read : denoted (aimed (codes "[]")) ≡ Ok (sets_to (value.Layer 5))
unfolding serde_json_on_literals digits is_utf8 chars
empty_aim_read = refl

pub aim_of_site_nine : denoted (aimed (codes "[[1,1],[9,1]]")) ≡ Err fault.Range
unfolding serde_json_on_literals digits is_utf8 chars
aim_of_site_nine = refl

-- falling ids, also from site 9; an id twice, and one that stands alone
pub of_another_form : map denoted
    (aimed (codes "[[2,1],[1,1]]") ∷ aimed (codes "[[9,1],[1,1]]")
    ∷ aimed (codes "[[1,1],[1,1]]") ∷ aimed (codes "[1,1]") ∷ [])
    ≡ replicate 4 (Err fault.Field)
unfolding serde_json_on_literals digits is_utf8 chars
of_another_form = refl

-- a command of site 2 with an aim
abbrev pub command_line : List ℕ
command_line =
    codes "{\"site\":2,\"do\":\"set\",\"object\":[1,1],"
    ++ codes "\"set\":\"layer\",\"to\":5,\"aim\":[[1,1]]}"

-- the change that the line denotes
abbrev pub wanted : Change
wanted = Set (record { 0 = first_of 1 }) (value.Layer 5) (first_of 1 ∷ [])

pub command_read : script_denoted command_line ≡ Ok (record { site = 2; command = Author wanted })
unfolding serde_json_on_literals digits is_utf8 chars
command_read = refl

-- a creation with an aim
abbrev pub creation_line : List ℕ
creation_line =
    codes "{\"site\":1,\"do\":\"create\",\"kind\":\"box\",\"place\":[0,0],\"size\":[10,10],"
    ++ codes "\"colour\":\"ff0000\",\"layer\":0,\"shown\":true,\"aim\":[]}"

pub aim_of_a_creation : script_denoted creation_line ≡ Err fault.Field
unfolding serde_json_on_literals digits is_utf8 chars
aim_of_a_creation = refl

-- the line that is written for an aim of two ids
abbrev pub written_line : List ℕ
written_line =
    codes "{\"aim\":[[1,1],[2,1]],\"id\":[1,2],\"object\":[1,1],\"op\":\"set\","
    ++ codes "\"past\":[1,0,0,0,0,0,0,0],\"set\":\"layer\",\"to\":5}"

pub aim_written : op_text (aims_at (first_of 1 ∷ first_of 2 ∷ [])) ≡ written_line
unfolding serde_json_on_literals digits
aim_written = refl
