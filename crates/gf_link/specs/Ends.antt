-- The messages that end a link, and lists of messages (this project's choice).
use Rattle.std.specs.Prelude.{◌≡◌, Bool, true, false, List, [], ◌∷◌, ◌++◌}
use Rattle.std.specs.Prelude.{if◌then◌else◌}
use Rattle.std.specs.List.{list_any}
use Rattle.gf_link.specs.declared.message.Message.{Message}
use Rattle.gf_link.specs.declared.message.Message.TheVariants.{Op, End, Stop}

-- nothing follows an End or a Stop
abbrev pub is_end : Message → Bool
is_end (Op o) = false
is_end End = true
is_end Stop = true

-- an End or a Stop is among the messages
abbrev pub is_ended : List Message → Bool
is_ended ms = list_any is_end ms

-- no message
abbrev pub is_empty : List Message → Bool
is_empty [] = true
is_empty (m ∷ ms) = false

-- End or Stop stands only in the last place
abbrev pub ends_last : List Message → Bool
ends_last [] = true
ends_last (m ∷ ms) = if is_end m then is_empty ms else ends_last ms

-- what was taken is a prefix of what was sent
abbrev pub IsPrefix : List Message → List Message → Type 0
IsPrefix taken sent = (rest : List Message) × (sent ≡ taken ++ rest)
