-- The keys of each line, and the words at them (RFC 8259 by serde_json's value; keys and words are
-- this project's choice).
use Rattle.std.specs.Prelude.{ℕ, ◌+◌, Bool, false, ◌&&◌, ◌==◌, is_some, List, []}
use Rattle.std.specs.Prelude.{◌∷◌, ◌++◌, length, Option, Some, None, option_and_then}
use Rattle.std.specs.Prelude.{codes}
use Rattle.std.specs.Str.{bytes_eq}
use Rattle.std.specs.List.{list_all}
use Rattle.serde_json.specs.Data.{Data, Members, no_members, member}
use Rattle.serde_json.specs.Find.{get, as_str, as_object}

-- ---- the keys, by line and kind

-- the keys that an operation line has beside those of its change
abbrev pub op_keys : List (List ℕ)
op_keys = codes "op" ∷ codes "id" ∷ codes "past" ∷ []

-- the keys that a script line has beside those of the change that its site makes
abbrev pub author_keys : List (List ℕ)
author_keys = codes "do" ∷ codes "site" ∷ []

-- the keys of a script line that waits for an operation
abbrev pub await_keys : List (List ℕ)
await_keys = codes "do" ∷ codes "site" ∷ codes "id" ∷ []

-- the keys of a change that creates an object; `shape` is the key of its form
abbrev pub create_keys : List ℕ → List (List ℕ)
create_keys shape = codes "kind" ∷ codes "place" ∷ shape ∷ codes "colour" ∷ codes "layer"
    ∷ codes "shown" ∷ []

-- the keys of a change that sets an attribute
abbrev pub set_keys : List (List ℕ)
set_keys = codes "object" ∷ codes "set" ∷ codes "to" ∷ []

-- the keys of a change that sets an attribute and aims at operations
abbrev pub aimed_keys : List (List ℕ)
aimed_keys = codes "aim" ∷ set_keys

-- ---- which line it is

-- how many members an object has
abbrev pub member_count : Members → ℕ
member_count no_members = 0
member_count (member key d ms) = member_count ms + 1

-- an object with n members
abbrev pub has_count : ℕ → Option Members → Bool
has_count n None = false
has_count n (Some ms) = member_count ms == n

-- an object with these keys and no other
abbrev pub has_exactly : List (List ℕ) → Data → Bool
has_exactly keys d = has_count (length keys) (as_object d)
    && list_all (λ key. is_some (get key d)) keys

-- a string that is this word
abbrev pub is_word : List ℕ → Option (List ℕ) → Bool
is_word word None = false
is_word word (Some text) = bytes_eq text word

-- the string at the key is this word
abbrev pub says : List ℕ → List ℕ → Data → Bool
says key word d = is_word word (option_and_then as_str (get key d))

-- the line creates an object of the kind, with its form at the key `shape`, and has these keys
-- besides
abbrev pub creates : List ℕ → List (List ℕ) → List ℕ → List ℕ → Data → Bool
creates verb beside kind shape d =
    has_exactly (beside ++ create_keys shape) d && says verb (codes "create") d
    && says (codes "kind") kind d

-- the line, with these keys beside those of its change, sets an attribute
abbrev pub sets : List ℕ → List (List ℕ) → Data → Bool
sets verb beside d = has_exactly (beside ++ set_keys) d && says verb (codes "set") d

-- the line sets an attribute, and aims at operations
abbrev pub sets_aimed : List ℕ → List (List ℕ) → Data → Bool
sets_aimed verb beside d = has_exactly (beside ++ aimed_keys) d && says verb (codes "set") d

-- the line waits for an operation
abbrev pub awaits : Data → Bool
awaits d = has_exactly await_keys d && says (codes "do") (codes "await") d
