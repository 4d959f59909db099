-- What became of each command of a site's script, and what the site had then (this project's
-- choice).
use Rattle.std.specs.Prelude.{◌≡◌, ℕ, ◌+◌, List, [], ◌∷◌, ◌++◌}
use Rattle.std.specs.Prelude.{length, Option, Some, None, ⊤}
use Rattle.std.specs.List.{flat_map}
use Rattle.gf_ops.specs.declared.op.Op.{Op}
use Rattle.gf_ops.specs.declared.change.Change.{Change}
use Rattle.gf_ops.specs.OperationOrder.{count_of}
use Rattle.gf_json.specs.declared.scripts.Command.{Command}
use Rattle.gf_json.specs.declared.scripts.Command.TheVariants.{Author, Await}
use Rattle.gf_site.specs.declared.cause.Cause.{Cause}
use Rattle.gf_site.specs.CommandAnswers.{AuthorAnswer, AwaitAnswer}
use Rattle.gf_worker.specs.declared.report.Refused.{Refused}

-- a command, what its site's list had before it, and the cause if it was refused
pub record Turn : Type 0 where
  pub command : Command
  pub before : List Op
  pub refusal : Option Cause

-- the answer to a command behind the operations before it, where these later ones follow
abbrev pub Answer : ℕ → List Op → List Op → Command → Option Cause → Type 0
Answer s before later (Author c) r = AuthorAnswer s before later c r
Answer s before later (Await i) r = AwaitAnswer s before later i r

-- the list goes on from what was before the command, and the answer is right there
pub record IsCommandTurn (s : ℕ) (ops : List Op) (t : Turn) : Type 0 where
  pub later : List Op
  pub whole : ops ≡ t.before ++ later
  pub answer : Answer s t.before later t.command t.refusal

-- the change that was accepted in a turn
abbrev pub accepted_change : Command → Option Cause → List Change
accepted_change (Author c) None = c ∷ []
accepted_change command r = []

-- the changes that were accepted in some turns
abbrev pub accepted_changes : List Turn → List Change
accepted_changes turns = flat_map (λ t. accepted_change t.command t.refusal) turns

-- the refusal of the command n
abbrev pub refusal_of : ℕ → Option Cause → List Refused
refusal_of n None = []
refusal_of n (Some c) = record { command = n; cause = c } ∷ []

-- the refused commands, numbered from n
abbrev pub refusals : ℕ → List Turn → List Refused
refusals n [] = []
refusals n (t ∷ ts) = refusal_of n t.refusal ++ refusals (n + 1) ts

-- the first turn has n operations of site s before it, and each change that was accepted adds one
-- before the turns behind it
abbrev pub AreCounted : ℕ → ℕ → List Turn → Type 0
AreCounted s n [] = ⊤
AreCounted s n (t ∷ ts) = (count_of t.before s ≡ n)
    × AreCounted s (n + length (accepted_change t.command t.refusal)) ts
