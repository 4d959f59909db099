-- What was read of lines so far, and what then blocks a site.
use Rattle.std.specs.Prelude.{◌≡◌, ℕ, List, ◌++◌, None, Some, find, ⊤}
use Rattle.gf_streams.specs.TextLines.{numbered_lines}
use Rattle.gf_ops.specs.declared.op.Op.{Op}
use Rattle.gf_ops.specs.declared.op.OpId.{OpId}
use Rattle.gf_causal.specs.Ready.{NoneIsReady}
use Rattle.gf_causal.specs.Waiting.{waits_for}
use Rattle.gf_site.specs.ReplicaState.{ReplicaState}
use Rattle.gf_site.specs.SiteState.{SiteState}
use Rattle.gf_replay.specs.Taking.{HasTaken}
use Rattle.gf_run.specs.declared.studio_error.StudioError.TheVariants as studio
use Rattle.gf_edit.specs.declared.edit_error.EditError.{EditError}
use Rattle.gf_edit.specs.declared.edit_error.EditError.TheVariants as edit
use Rattle.gf_edit.specs.declared.entries.Entry.{Entry}
use Rattle.gf_edit.specs.declared.reading.ReadLines.{ReadLines}
use Rattle.gf_edit.specs.EditedText.{AreEntriesOf, commands_in, ops_in}
use Rattle.gf_edit.specs.Waiting.{is_blocking}

-- the lines before those that are left denote entries. The replica has taken their operations, and
-- holds none that is ready
pub record HasReadEntries (s : ℕ) (bytes : List ℕ) (left : List (ℕ × List ℕ)) (x : ReplicaState)
    : Type 0 where
  pub before : List (ℕ × List ℕ)
  pub whole : numbered_lines bytes ≡ before ++ left
  pub entries : List (ℕ × Entry)
  pub lines : AreEntriesOf s before entries
  pub taken : HasTaken (ops_in entries) x
  pub none : NoneIsReady x.ops x.held

-- the same of what was read, which has the commands among the entries
pub record HasReadLines (s : ℕ) (bytes : List ℕ) (left : List (ℕ × List ℕ)) (r : ReadLines)
    : Type 0 where
  pub read : HasReadEntries s bytes left r.replica
  pub commands : r.commands.items ≡ commands_in read.entries

-- no operation that the site holds blocks it
abbrev pub IsUnblocked : SiteState → Type 0
IsUnblocked x = find (is_blocking x.number x.ops) x.held ≡ None

-- of the operations that the site holds, the first that blocks it is i, which waits for j
pub record HoldsBlocking (x : SiteState) (i j : OpId) : Type 0 where
  pub op : Op
  pub first : find (is_blocking x.number x.ops) x.held ≡ Some op
  pub named : i ≡ op.id
  pub waits : j ≡ waits_for x.ops op

-- why a site makes nothing, whatever it is told
abbrev pub RefusesWaiting : SiteState → EditError → Type 0
RefusesWaiting x (edit.Waits i j) = HoldsBlocking x i j
RefusesWaiting x (edit.Run studio.OutOfMemory) = ⊤
RefusesWaiting x other = ⊥
