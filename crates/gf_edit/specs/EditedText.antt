-- What the text of an edit denotes (this project's choice, over causal delivery).
use Rattle.std.specs.Prelude.{◌≡◌, ℕ, List, [], ◌∷◌, ◌++◌}
use Rattle.std.specs.Prelude.{Contains, Ok, flat_map, map}
use Rattle.gf_streams.specs.TextLines.{numbered_lines}
use Rattle.gf_ops.specs.declared.op.Op.{Op}
use Rattle.gf_ops.specs.Accepted.{AreAccepted}
use Rattle.gf_json.specs.LineValues.{Got}
use Rattle.gf_causal.specs.Blocking.{Blocks}
use Rattle.gf_causal.specs.DeliveredPart.{HaveSame}
use Rattle.gf_replay.specs.Denoting.{AreLinesOf, Delivers}
use Rattle.gf_edit.specs.declared.entries.Entry.{Entry}
use Rattle.gf_edit.specs.declared.entries.Entry.TheVariants.{Operation, Command as Told}
use Rattle.gf_edit.specs.declared.numbered.Numbered.{Numbered}
use Rattle.gf_edit.specs.Entries.{entry_denoted}
use Rattle.gf_edit.specs.Making.{Makes}

-- what a line of this number that denotes this entry reads as
abbrev pub denotes_entry : ℕ × Entry → ℕ × Got Entry
denotes_entry e = (e.0, Ok e.1)

-- what a numbered line reads as, where site s edits
abbrev pub entry_at : ℕ → ℕ × List ℕ → ℕ × Got Entry
entry_at s line = (line.0, entry_denoted s line.1)

-- the lines denote these entries in order, each with the number of its line
abbrev pub AreEntriesOf : ℕ → List (ℕ × List ℕ) → List (ℕ × Entry) → Type 0
AreEntriesOf s lines entries = map (entry_at s) lines ≡ map denotes_entry entries

-- the operation of an entry, if it has one
abbrev pub op_in : Entry → List Op
op_in (Operation a) = a ∷ []
op_in (Told c) = []

-- the command of an entry, if it has one, with the number of its line
abbrev pub command_in : ℕ → Entry → List Numbered
command_in n (Operation a) = []
command_in n (Told c) = record { line = n; command = c } ∷ []

-- the operations among entries, in order
abbrev pub ops_in : List (ℕ × Entry) → List Op
ops_in entries = flat_map (λ (e : ℕ × Entry). op_in e.1) entries

-- the commands among entries, in order
abbrev pub commands_in : List (ℕ × Entry) → List Numbered
commands_in entries = flat_map (λ (e : ℕ × Entry). command_in e.0 e.1) entries

-- the operations of the entries deliver this history, each accepted in its turn, and none blocks
-- site s
pub record AreDelivered (s : ℕ) (entries : List (ℕ × Entry)) (history : List Op) : Type 0 where
  pub delivers : Delivers (ops_in entries) history
  pub accepted : AreAccepted history
  pub free : (a : Op) → Contains (ops_in entries) a → ¬ (Blocks s history a)

-- the lines of the bytes denote operations and commands of site s. The commands make these new
-- operations behind the history that the operations deliver
pub record DenotesEdit (s : ℕ) (bytes : List ℕ) (new : List Op) : Type 0 where
  pub entries : List (ℕ × Entry)
  pub lines : AreEntriesOf s (numbered_lines bytes) entries
  pub history : List Op
  pub behind : AreDelivered s entries history
  pub makes : Makes s history (commands_in entries) new

-- the lines of these bytes denote what the edit read and what it made, in whatever order and
-- however often
pub record JoinsEdit (s : ℕ) (bytes : List ℕ) (new : List Op) (others : List ℕ) : Type 0 where
  pub edit : DenotesEdit s bytes new
  pub ops : List Op
  pub lines : AreLinesOf (numbered_lines others) ops
  pub same : HaveSame ops (ops_in edit.entries ++ new)
