-- What the commands of one site make behind a history (this project's choice).
use Rattle.std.specs.Prelude.{◌≡◌, ℕ, List, [], ◌∷◌, ◌++◌, None, flat_map}
use Rattle.gf_ops.specs.declared.op.Op.{Op}
use Rattle.gf_ops.specs.declared.op.OpId.{OpId}
use Rattle.gf_ops.specs.declared.change.Change.{Change}
use Rattle.gf_ops.specs.Limits.{IsInRange}
use Rattle.gf_ops.specs.Accepted.{IsAccepted}
use Rattle.gf_json.specs.WrittenLines.{op_text}
use Rattle.gf_keep.specs.Keeping.{AreKeeping}
use Rattle.gf_site.specs.MadeEach.{MakesEach}
use Rattle.gf_keep.specs.declared.keep.Keep.{Keep}
use Rattle.gf_site.specs.SiteState.{authored}
use Rattle.gf_site.specs.CommandAnswers.{AwaitAnswer}
use Rattle.gf_edit.specs.declared.edit_command.EditCommand.{EditCommand}
use Rattle.gf_edit.specs.declared.edit_command.EditCommand.TheVariants as command
use Rattle.gf_edit.specs.declared.numbered.Numbered.{Numbered}

-- site s makes the operation of the change c behind h
pub record MakesOp (s : ℕ) (h : List Op) (c : Change) : Type 0 where
  pub in_range : IsInRange (authored s h c)
  pub accepted : IsAccepted h (authored s h c)

-- behind h, site s passes these commands, each with its line's number, and makes these operations.
-- Each operation knows h and those made before it
pub data Makes (s : ℕ) (h : List Op) : List Numbered → List Op → Type 0 where
  none : Makes s h [] []
  author : {cs : List Numbered} {new : List Op} (n : ℕ) (c : Change)
      → Makes s h cs new → MakesOp s (h ++ new) c
      → Makes s h (cs ++ record { line = n; command = command.Author c } ∷ [])
      (new ++ authored s (h ++ new) c ∷ [])
  await : {cs : List Numbered} {new : List Op} (n : ℕ) (i : OpId)
      → Makes s h cs new → AwaitAnswer s (h ++ new) [] i None
      → Makes s h (cs ++ record { line = n; command = command.Await i } ∷ []) new
  keep : {cs : List Numbered} {new more : List Op} {changes : List Change} (n : ℕ) (k : Keep)
      → Makes s h cs new → AreKeeping (h ++ new) k changes → MakesEach s (h ++ new) changes more
      → Makes s h (cs ++ record { line = n; command = command.Keep k } ∷ []) (new ++ more)

-- the command of line n is the first that site s refuses behind h. Refused tells how, of the
-- operations before the command and of the command
pub record HasRefused (Refused : List Op → EditCommand → Type 0) (s : ℕ) (h : List Op)
    (commands : List Numbered) (n : ℕ) : Type 0 where
  pub before : List Numbered
  pub command : EditCommand
  pub after : List Numbered
  pub whole : commands ≡ before ++ record { line = n; command = command } ∷ after
  pub new : List Op
  pub makes : Makes s h before new
  pub refused : Refused (h ++ new) command

-- the line of an operation, with LF
abbrev pub written_line : Op → List ℕ
written_line a = op_text a ++ 10 ∷ []

-- the lines of operations, in order
abbrev pub written_lines : List Op → List ℕ
written_lines ops = flat_map written_line ops
