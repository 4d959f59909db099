-- Lines that keep versions of an object (RFC 8259 by serde_json's value; keys and limits are this
-- project's choice).
use Rattle.std.specs.Prelude.{ℕ, Bool, ◌&&◌, IsTrue, List, Option, None, option_map, codes}
use Rattle.std.specs.Prelude.{if◌then◌else◌}
use Rattle.gf_ops.specs.Limits.{is_aim, is_id, is_site}
use Rattle.gf_json.specs.declared.scripts.KeepLine.{KeepLine}
use Rattle.serde_json.specs.Data.{Data}
use Rattle.serde_json.specs.Find.{as_object}
use Rattle.gf_json.specs.LineValues.{Got, and_then, within}
use Rattle.gf_json.specs.LineForms.{◌&◌, ids, name, natural}
use Rattle.gf_json.specs.LineKeys.{has_count, says}
use Rattle.gf_json.specs.LineChanges.{at}
use Rattle.gf_json.specs.OperationLines.{json}

-- the line k keeps all limits
abbrev pub is_keep : KeepLine → Bool
is_keep k = is_site k.site && is_id k.object.0 && is_aim k.with

-- the line k keeps all limits
abbrev pub IsKeepInRange : KeepLine → Type 0
IsKeepInRange k = IsTrue (is_keep k)

-- the line has four keys, of which "do" says that it keeps versions
abbrev pub keeps : Data → Bool
keeps d = has_count 4 (as_object d) && says (codes "do") (codes "keep") d

-- what the line keeps, by its value and whatever its limits
abbrev pub keep_of : Data → Option KeepLine
keep_of d =
    if keeps d
    then option_map (λ p. record { site = p.0; object = record { 0 = p.1.0 }; with = p.1.1 })
    (at (codes "site") natural d & at (codes "object") name d & at (codes "with") ids d)
    else None

-- what a line that keeps versions denotes, or its first fault
abbrev pub keep_denoted : List ℕ → Got KeepLine
keep_denoted line = and_then (λ d. within is_keep (keep_of d)) (json line)
