-- Operation lines (RFC 8259 by serde_json's value; keys are this project's choice).
use Rattle.std.specs.Prelude.{ℕ, List, Err, Option, option_map, codes, if◌then◌else◌}
use Rattle.std.specs.Str.{is_utf8}
use Rattle.std.specs.Option.{ok_or}
use Rattle.gf_ops.specs.declared.op.Op.{Op}
use Rattle.gf_ops.specs.Limits.{is_in_range}
use Rattle.gf_json.specs.declared.line_error.LineError.TheVariants as fault
use Rattle.serde_json.specs.Data.{Data}
use Rattle.serde_json.specs.Read.{read}
use Rattle.gf_json.specs.LineValues.{Got, and_then, within}
use Rattle.gf_json.specs.LineForms.{◌&◌, clock, name}
use Rattle.gf_json.specs.LineKeys.{op_keys}
use Rattle.gf_json.specs.LineChanges.{at, change}

-- the value that serde_json reads in the bytes, where they are UTF-8
abbrev pub json : List ℕ → Got Data
json line = if is_utf8 line then ok_or (read line) fault.Json else Err fault.Json

-- the operation of a line's value, whatever its limits
abbrev pub op_of : Data → Option Op
op_of d = option_map (λ (i, (known, new)). record { id = i; past = known; change = new })
    (at (codes "id") name d & at (codes "past") clock d & change (codes "op") op_keys d)

-- the operation that a line denotes, or its first fault
abbrev pub denoted : List ℕ → Got Op
denoted line = and_then (λ d. within is_in_range (op_of d)) (json line)
