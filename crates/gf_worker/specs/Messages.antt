-- What a site sends to another: the operations that it makes, in their order, and then one end
-- (this project's choice).
use Rattle.std.specs.Prelude.{◌==◌, ℕ, Bool, true, false, List, [], ◌∷◌, map}
use Rattle.std.specs.List.{flat_map, filter}
use Rattle.gf_ops.specs.declared.op.Op.{Op}
use Rattle.gf_link.specs.declared.message.Message.{Message}
use Rattle.gf_link.specs.declared.message.Message.TheVariants as message

-- the operations of site s in the list
abbrev pub own : ℕ → List Op → List Op
own s ops = filter (λ a. a.id.site == s) ops

-- the messages with the operations, in their order
abbrev pub messages_of : List Op → List Message
messages_of ops = map (λ a. message.Op a) ops

-- the last message of a site, by whether it is short
abbrev pub last_message : Bool → Message
last_message true = message.Stop
last_message false = message.End

-- the operation in a message
abbrev pub op_in : Message → List Op
op_in (message.Op a) = a ∷ []
op_in message.End = []
op_in message.Stop = []

-- the operations among some messages
abbrev pub ops_of : List Message → List Op
ops_of ms = flat_map op_in ms
