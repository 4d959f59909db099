-- The seats of a link, from within (this project's choice).
use Rattle.std.specs.Prelude.{◌≡◌, ◌≤◌, true, false, [], length, IsTrue}
use Rattle.crossbeam_queue.specs.Passes.{view}
use Rattle.gf_link.specs.Ends.{is_ended, ends_last}
use Rattle.gf_link.specs.Kept.{log}
use Rattle.gf_link.specs.Seats.{SendSide, TakeSide}
use Rattle.gf_link.specs.declared.seats.SendSeat.TheInside.{Inside as SendInside}
use Rattle.gf_link.specs.declared.seats.TakeSeat.TheInside.{Inside as TakeInside}

-- the link of the seat's pass, and what it has sent
abbrev pub sends : SendInside → SendSide
sends s = record { link = s.pass.table_id; sent = (view s.pass).sent }

-- the link of the seat's pass, and what it has taken
abbrev pub takes : TakeInside → TakeSide
takes s = record { link = s.pass.table_id; taken = (view s.pass).taken }

-- the seat's pass may send and not take, and the counts are those of what was sent
pub record IsSender (s : SendInside) : Type 0 where
  pub idle : s.pass.me.1 ≡ []
  pub role : view s.pass ≡ log true false (view s.pass).sent []
  pub counted : s.sent ≡ length (view s.pass).sent
  pub noted : s.ended ≡ is_ended (view s.pass).sent

-- the seat's pass may take and not send, and the counts are those of what was taken
pub record IsTaker (s : TakeInside) : Type 0 where
  pub idle : s.pass.me.1 ≡ []
  pub role : view s.pass ≡ log false true [] (view s.pass).taken
  pub counted : s.taken ≡ length (view s.pass).taken
  pub few : s.taken ≤ 1024
  pub noted : s.ended ≡ is_ended (view s.pass).taken
  pub lasts : IsTrue (ends_last (view s.pass).taken)
