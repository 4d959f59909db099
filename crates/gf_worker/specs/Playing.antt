-- What a command does to a worker. No public clause cites this module.
use Rattle.std.specs.Prelude.{◌≡◌, ◌≢◌, ◌⊎◌, ◌+◌, ◌++◌, ◌∷◌, []}
use Rattle.std.specs.Prelude.{ℕ, Bool, true, false, List, Option, Some, None, map, length}
use Rattle.atomic_table.specs.Seated.{TableId}
use Rattle.gf_json.specs.declared.scripts.Command.{Command}
use Rattle.gf_site.specs.declared.cause.Cause.{Cause}
use Rattle.gf_worker.specs.declared.report.Report.{Report}
use Rattle.gf_worker.specs.declared.work.Work.{Work}
use Rattle.gf_worker.specs.Peers.{ArePlaced, seat_of}
use Rattle.gf_worker.specs.Working.{Gathers, IsUnderway, AreSent, Plays}
use Rattle.gf_worker.specs.Turns.{refusal_of}
use Rattle.gf_site.specs.declared.faults.AuthorFault.{AuthorFault}
use Rattle.gf_site.specs.declared.faults.AuthorFault.TheVariants as fault
use Rattle.gf_site.specs.declared.cause.Cause.TheVariants as cause

-- the refusal, if there is one, is in the report, unless memory was refused
pub record IsRefusal (number : ℕ) (cause : Option Cause) (done : Bool)
    (old new : Report) : Type 0 where
  pub accepted : new.accepted ≡ old.accepted
  pub refused : done ≡ true → new.refused.items ≡ old.refused.items ++ refusal_of number cause
  pub same : done ≡ false → new.refused.items ≡ old.refused.items

-- the cause of a refused change; want of memory is no cause
abbrev pub cause_of : AuthorFault → Option Cause
cause_of fault.Exhausted = Some cause.Exhausted
cause_of fault.Range = Some cause.Range
cause_of fault.NoObject = Some cause.NoObject
cause_of fault.WrongKind = Some cause.WrongKind
cause_of fault.BadAim = Some cause.BadAim
cause_of fault.OutOfMemory = None

-- the refusal of a change is in the report, unless memory was refused
pub record IsFaultReported (number : ℕ) (refused_for : AuthorFault) (done : Bool)
    (old new : Report) : Type 0 where
  pub refusal : IsRefusal number (cause_of refused_for) done old new
  pub other : done ≡ true → refused_for ≢ fault.OutOfMemory

-- the worker w is before its first command
pub record IsBegun (w : Work) : Type 0 where
  pub gathers : Gathers w
  pub underway : IsUnderway [] w
  pub sent : AreSent w

-- the command was played, or the worker became short
pub record PlaysOn (n : ℕ) (c : Command) (old new : Work) : Type 0 where
  pub placed : (links : List TableId) → ArePlaced links old.peers.items
      → ArePlaced links new.peers.items
  pub seats : map seat_of new.peers.items ≡ map seat_of old.peers.items
  pub number : new.site.number ≡ old.site.number
  pub short : new.short ≡ false → old.short ≡ false
  pub gathers : Gathers old → Gathers new
  pub sent : Gathers old → AreSent old → AreSent new
  pub played : new.short ≡ false → (commands : List Command) → n ≡ 1 + length commands
      → Gathers old → IsUnderway commands old
      → IsUnderway (commands ++ c ∷ []) new
  pub stays : new.short ≡ true → (commands : List Command) → Gathers old
      → IsUnderway commands old
      → IsUnderway commands new ⊎ ((old.short ≡ false)
      × IsUnderway (commands ++ c ∷ []) new)

-- the commands were played in turn; a worker that is short played them up to one
pub record Through (done : List Command) (old new : Work) : Type 0 where
  pub placed : (links : List TableId) → ArePlaced links old.peers.items
      → ArePlaced links new.peers.items
  pub seats : map seat_of new.peers.items ≡ map seat_of old.peers.items
  pub number : new.site.number ≡ old.site.number
  pub gathers : Gathers old → Gathers new
  pub sent : Gathers old → AreSent old → AreSent new
  pub plays : Gathers old → IsUnderway [] old → Plays done new
