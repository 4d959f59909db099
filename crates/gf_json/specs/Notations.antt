-- A line of JSON (RFC 8259 by serde_json's compact text).
use Rattle.std.specs.Prelude.{ℕ, List, ◌++◌, codes}
use Rattle.serde_json.specs.Data.{Data, object, no_members}
use Rattle.serde_json.specs.Written.{compact_text}
use Rattle.gf_json.specs.WrittenMembers.{put_all}

-- the object with these members, by rising keys
abbrev pub object_of : List (List ℕ × Data) → Data
object_of ms = object (put_all ms no_members)

-- the line of a value
abbrev pub json_line : Data → List ℕ
json_line d = compact_text d ++ codes "\n"
