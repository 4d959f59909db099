-- What the commands of one site came to: a turn for each, in its list and in its report (this
-- project's choice).
use Rattle.std.specs.Prelude.{◌≡◌, ℕ, ◌≤◌, List, length, map, Contains, AllPairs}
use Rattle.gf_ops.specs.declared.op.Op.{Op}
use Rattle.gf_json.specs.declared.scripts.Command.{Command}
use Rattle.gf_worker.specs.declared.report.Report.{Report}
use Rattle.gf_worker.specs.Messages.{own}
use Rattle.gf_worker.specs.Turns.{Turn, IsCommandTurn, AreCounted, accepted_changes, refusals}

-- each command of site s has its turn, in order. The operations of s in the list, and its report,
-- are what the turns came to
pub record IsPlayed (s : ℕ) (commands : List Command) (ops : List Op)
    (report : Report) : Type 0 where
  pub turns : List Turn
  pub each : map (λ t. t.command) turns ≡ commands
  pub right : (t : Turn) → Contains turns t → IsCommandTurn s ops t
  pub rising : AllPairs (λ t u. length t.before ≤ length u.before) turns
  pub counted : AreCounted s 0 turns
  pub made : map (λ a. a.change) (own s ops) ≡ accepted_changes turns
  pub accepted : report.accepted.items ≡ map (λ a. a.id) (own s ops)
  pub refused : report.refused.items ≡ refusals 1 turns
