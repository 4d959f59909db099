-- Why a command is refused behind a history (this project's choice).
use Rattle.std.specs.Prelude.{◌≡◌, ◌⊎◌, ℕ, List, [], ◌∷◌, ◌++◌, Some}
use Rattle.gf_ops.specs.declared.op.Op.{Op}
use Rattle.gf_ops.specs.declared.change.Change.{Change}
use Rattle.gf_keep.specs.Keeping.{AreKeeping}
use Rattle.gf_keep.specs.KeepFaults.{HasNoneKept, RefusesKeep}
use Rattle.gf_site.specs.MadeEach.{MakesEach}
use Rattle.gf_keep.specs.declared.faults.KeepFault.TheVariants as fault
use Rattle.gf_keep.specs.declared.keep.Keep.{Keep}
use Rattle.gf_site.specs.declared.cause.Cause.{Cause}
use Rattle.gf_site.specs.declared.cause.Cause.TheVariants as cause
use Rattle.gf_site.specs.CommandAnswers.{AuthorAnswer, AwaitAnswer}
use Rattle.gf_edit.specs.declared.edit_command.EditCommand.{EditCommand}
use Rattle.gf_edit.specs.declared.edit_command.EditCommand.TheVariants as command

-- behind h there are no changes that keep what k names, for this cause
abbrev pub RefusesToKeep : List Op → Keep → Cause → Type 0
RefusesToKeep h k cause.NoObject = RefusesKeep h k fault.NoObject
RefusesToKeep h k cause.Range = RefusesKeep h k fault.Range
RefusesToKeep h k other = ⊥

-- of some changes, one is the first that site s refuses behind h, for this cause
pub record RefusesOneOf (s : ℕ) (h : List Op) (changes : List Change) (why : Cause) : Type 0 where
  pub before : List Change
  pub change : Change
  pub after : List Change
  pub whole : changes ≡ before ++ change ∷ after
  pub made : List Op
  pub makes : MakesEach s h before made
  pub refused : AuthorAnswer s (h ++ made) [] change (Some why)

-- of the changes that keep what k names, one is refused for this cause
pub record RefusesChange (s : ℕ) (h : List Op) (k : Keep) (why : Cause) : Type 0 where
  pub changes : List Change
  pub keeping : AreKeeping h k changes
  pub refused : RefusesOneOf s h changes why

-- site s refuses the command behind h, for this cause
abbrev pub RefusesFor : ℕ → Cause → List Op → EditCommand → Type 0
RefusesFor s why h (command.Author c) = AuthorAnswer s h [] c (Some why)
RefusesFor s why h (command.Await i) = AwaitAnswer s h [] i (Some why)
RefusesFor s why h (command.Keep k) = RefusesToKeep h k why ⊎ RefusesChange s h k why

-- the command is to keep versions of which there is none
abbrev pub KeepsNone : List Op → EditCommand → Type 0
KeepsNone h (command.Keep k) = HasNoneKept h k
KeepsNone h other = ⊥
