-- What contracts see of the two seats of a link (this project's choice).
use Rattle.std.specs.Prelude.{List}
use Rattle.atomic_table.specs.Seated.{TableId}
use Rattle.gf_link.specs.declared.message.Message.{Message}

-- the link's name, and what was sent on it
pub record SendSide : Type 0 where
  pub link : TableId
  pub sent : List Message

-- the link's name, and what was taken from it
pub record TakeSide : Type 0 where
  pub link : TableId
  pub taken : List Message
