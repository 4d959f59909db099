-- What one command does to the site and to what is written. No public clause cites this module.
use Rattle.std.specs.Prelude.{◌≡◌, ℕ, List, [], ◌∷◌, ◌++◌, Contains, Ok, Option, Some, None, ⊤}
use Rattle.gf_ops.specs.declared.op.Op.{Op}
use Rattle.gf_ops.specs.declared.change.Change.{Change}
use Rattle.gf_json.specs.OperationLines.{denoted}
use Rattle.gf_json.specs.WrittenLines.{op_text}
use Rattle.gf_site.specs.SiteState.{SiteState}
use Rattle.gf_site.specs.Events.{Authors}
use Rattle.gf_site.specs.declared.faults.AuthorFault.{AuthorFault}
use Rattle.gf_site.specs.declared.faults.AuthorFault.TheVariants as fault
use Rattle.gf_run.specs.declared.studio_error.StudioError.TheVariants as studio
use Rattle.gf_site.specs.declared.cause.Cause.TheVariants as cause
use Rattle.gf_site.specs.CommandAnswers.{AwaitAnswer}
use Rattle.gf_keep.specs.Keeping.{AreKeeping}
use Rattle.gf_site.specs.MadeEach.{MakesEach}
use Rattle.gf_keep.specs.declared.faults.KeepFault.{KeepFault}
use Rattle.gf_keep.specs.declared.faults.KeepFault.TheVariants as keep_fault
use Rattle.gf_keep.specs.declared.keep.Keep.{Keep}
use Rattle.gf_edit.specs.declared.edit_command.EditCommand.{EditCommand}
use Rattle.gf_edit.specs.declared.edit_command.EditCommand.TheVariants as command
use Rattle.gf_edit.specs.declared.edit_error.EditError.{EditError}
use Rattle.gf_edit.specs.declared.edit_error.EditError.TheVariants as edit
use Rattle.gf_run.specs.declared.answering.Answer.{Answer}
use Rattle.gf_edit.specs.declared.made.Made.{Made}
use Rattle.gf_edit.specs.declared.numbered.Numbered.{Numbered}
use Rattle.gf_edit.specs.MadeOperations.{made_of, made_until}
use Rattle.gf_edit.specs.Making.{HasRefused, Makes, written_line, written_lines}
use Rattle.gf_edit.specs.RefusedCommands.{KeepsNone, RefusesFor, RefusesOneOf}

-- the change of line n was refused for this fault
abbrev pub of_author : ℕ → AuthorFault → EditError
of_author n fault.Exhausted = edit.Refused n cause.Exhausted
of_author n fault.Range = edit.Refused n cause.Range
of_author n fault.NoObject = edit.Refused n cause.NoObject
of_author n fault.WrongKind = edit.Refused n cause.WrongKind
of_author n fault.BadAim = edit.Refused n cause.BadAim
of_author n fault.OutOfMemory = edit.Run studio.OutOfMemory

-- the site makes an operation of the change, its line is appended, and it is told as the last
pub record WritesOp (c : Change) (old new : SiteState) (before after : Answer (Option Made))
    : Type 0 where
  pub op : Op
  pub authors : Authors old c op new
  pub is : after.text.items ≡ before.text.items ++ written_line op
  pub reads : denoted (op_text op) ≡ Ok op
  pub told : after.value ≡ Some (made_until before.value op.id)

-- no versions were kept, for this fault
abbrev pub of_keep : ℕ → KeepFault → EditError
of_keep n keep_fault.NoObject = edit.Refused n cause.NoObject
of_keep n keep_fault.Range = edit.Refused n cause.Range
of_keep n keep_fault.NoVersion = edit.NoVersion n
of_keep n keep_fault.OutOfMemory = edit.Run studio.OutOfMemory

-- what is told of operations with these behind them
abbrev pub told_after : Option Made → List Op → Option Made
told_after made [] = made
told_after made (a ∷ ops) = told_after (Some (made_until made a.id)) ops

-- the site made an operation of each of the changes, and their lines are appended
pub record WritesEach (changes : List Change) (old new : SiteState)
    (before after : Answer (Option Made)) : Type 0 where
  pub ops : List Op
  pub makes : MakesEach old.number old.ops changes ops
  pub had : new.ops ≡ old.ops ++ ops
  pub number : new.number ≡ old.number
  pub is : after.text.items ≡ before.text.items ++ written_lines ops
  pub told : after.value ≡ told_after before.value ops
  pub reads : (a : Op) → Contains ops a → denoted (op_text a) ≡ Ok a

-- the site made the operations that keep what k names
pub record WritesKeep (k : Keep) (old new : SiteState) (before after : Answer (Option Made))
    : Type 0 where
  pub changes : List Change
  pub keeping : AreKeeping old.ops k changes
  pub writes : WritesEach changes old new before after

-- why not all of the changes of line n were made
abbrev pub RefusesEach : ℕ → List Change → SiteState → EditError → Type 0
RefusesEach n changes x (edit.Refused m why) = (m ≡ n) × RefusesOneOf x.number x.ops changes why
RefusesEach n changes x (edit.Run studio.OutOfMemory) = ⊤
RefusesEach n changes x other = ⊥

-- the site passes the command, and what it makes is written
abbrev pub Passes : EditCommand → SiteState → SiteState → Answer (Option Made)
    → Answer (Option Made) → Type 0
Passes (command.Author c) old new before after = WritesOp c old new before after
Passes (command.Await i) old new before after =
    AwaitAnswer old.number old.ops [] i None × (new ≡ old) × (after ≡ before)
Passes (command.Keep k) old new before after = WritesKeep k old new before after

-- why the command of line n is not passed
abbrev pub RefusesCommand : ℕ → EditCommand → SiteState → EditError → Type 0
RefusesCommand n c x (edit.Refused m why) = (m ≡ n) × RefusesFor x.number why x.ops c
RefusesCommand n c x (edit.NoVersion m) = (m ≡ n) × KeepsNone x.ops c
RefusesCommand n c x (edit.Run studio.OutOfMemory) = ⊤
RefusesCommand n c x other = ⊥

-- the site, which had h, passed these commands, and what it made is written
pub record HasPassed (s : ℕ) (h : List Op) (commands : List Numbered) (x : SiteState)
    (e : Answer (Option Made)) : Type 0 where
  pub new : List Op
  pub makes : Makes s h commands new
  pub ops : x.ops ≡ h ++ new
  pub number : x.number ≡ s
  pub is : e.text.items ≡ written_lines new
  pub told : e.value ≡ made_of new
  pub reads : (a : Op) → Contains new a → denoted (op_text a) ≡ Ok a

-- why commands are not all passed
abbrev pub RefusesMaking : ℕ → List Op → List Numbered → EditError → Type 0
RefusesMaking s h commands (edit.Refused n why) = HasRefused (RefusesFor s why) s h commands n
RefusesMaking s h commands (edit.NoVersion n) = HasRefused KeepsNone s h commands n
RefusesMaking s h commands (edit.Run studio.OutOfMemory) = ⊤
RefusesMaking s h commands other = ⊥
