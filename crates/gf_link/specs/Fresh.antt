-- A link on which nothing was sent yet (this project's choice).
use Rattle.std.specs.Prelude.{◌≡◌, []}
use Rattle.atomic_table.specs.Seated.{TableId}
use Rattle.gf_link.specs.Seats.{SendSide, TakeSide}

-- both seats are of the link, and nothing was sent or taken
pub record IsNewLink (link : TableId) (send : SendSide) (take : TakeSide) : Type 0 where
  pub send_is : send ≡ record { link = link; sent = [] }
  pub take_is : take ≡ record { link = link; taken = [] }
