-- What was taken of the lines so far, and what a refused line says of the text, where a site edits
-- and where none does.
use Rattle.std.specs.Prelude.{ℕ, Ok, Err, Option, None, Some}
use Rattle.std.proofs.Common.{◌≡◌, List, [], ◌∷◌, refl, sym, ap, ◌∙◌}
use Rattle.gf_base.proofs.ListLemmas.{not_Contains-nil}
use Rattle.gf_streams.specs.TextLines.{numbered_lines}
use Rattle.gf_ops.specs.declared.op.Op.{Op}
use Rattle.gf_site.specs.ReplicaState.{ReplicaState, new_replica}
use Rattle.gf_json.specs.LineValues.{Got, mapped}
use Rattle.gf_json.specs.OperationLines.{denoted}
use Rattle.gf_json.specs.declared.line_error.LineError.{LineError}
use Rattle.gf_json.specs.declared.line_error.LineError.TheVariants as line
use Rattle.gf_replay.specs.declared.reading_error.ReadingError.{ReadingError}
use Rattle.gf_replay.specs.Taking.{RefusesOp, TakesOp, of_line}
use Rattle.gf_replay.proofs.ReadingLemmas as replay
use Rattle.gf_replay.proofs.TakingLemmas.{delivers}
use Rattle.gf_edit.specs.declared.edit_command.EditCommand.{EditCommand}
use Rattle.gf_edit.specs.declared.entries.Entry.TheVariants as entry
use Rattle.gf_edit.specs.EditedText.{ops_in}
use Rattle.gf_edit.specs.Entries.{denoted_by, entry_of}
use Rattle.gf_edit.proofs.ReceivingLemmas as edit
use Rattle.gf_check.specs.CheckedText.{DenotesSome, RefusesChecked}
use Rattle.gf_check.specs.CheckedLines.{HasRead}

-- ---- operation lines alone

alone : (g : Got Op) → entry_of g (Err line.Field) ≡ mapped (λ a. entry.Operation a) g
alone (Ok a) = refl
alone (Err line.Json) = refl
alone (Err line.Field) = refl
alone (Err line.Range) = refl
alone (Err line.OutOfMemory) = refl

is_op : (g : Got Op) (a : Op) → mapped (λ b. entry.Operation b) g ≡ Ok (entry.Operation a)
    → g ≡ Ok a
is_op (Ok b) a e = let same : b ≡ a = cc in ap (λ c. Ok c) same
is_op (Err f) a e = absurd cc

is_fault : (g : Got Op) (f : LineError) → mapped (λ b. entry.Operation b) g ≡ Err f → g ≡ Err f
is_fault (Ok b) f e = absurd cc
is_fault (Err h) f e = let same : h ≡ f = cc in ap (λ i. Err i) same

no_command : (g : Got Op) (c : EditCommand)
    → ¬ (mapped (λ b. entry.Operation b) g ≡ Ok (entry.Command c))
no_command (Ok b) c e = absurd cc
no_command (Err f) c e = absurd cc

-- ---- the lines so far

-- before the first line nothing was taken
pub HasRead-none : (editor : Option ℕ) (bytes : List ℕ)
    → HasRead editor bytes (numbered_lines bytes) new_replica
HasRead-none None bytes = record {
  before = [];
  whole = refl;
  ops = [];
  lines = refl;
  taken = replay.none_taken;
  none = λ a i r. not_Contains-nil a i;
}
HasRead-none (Some s) bytes = edit.HasRead-none s bytes (numbered_lines bytes) new_replica refl refl

-- with no line left, the bytes denote a history
pub DenotesSome-read : (editor : Option ℕ) (bytes : List ℕ) (x : ReplicaState)
    → HasRead editor bytes [] x → DenotesSome editor bytes
DenotesSome-read None bytes x read = record {
  history = x.ops;
  denoted = replay.Denotes-read bytes x (replay.DeliversLines-read [] bytes x read);
}
DenotesSome-read (Some s) bytes x read = record {
  entries = read.entries;
  lines = edit.lines_read s bytes x read;
  history = x.ops;
  delivers = delivers (ops_in read.entries) x read.taken read.none;
}

module _ (bytes : List ℕ) (n : ℕ) (text : List ℕ) (left : List (ℕ × List ℕ)) (x : ReplicaState)
  where
    -- an operation more is taken
    pub HasRead-op : (editor : Option ℕ) → HasRead editor bytes ((n, text) ∷ left) x → (a : Op)
        → denoted_by editor text ≡ Ok (entry.Operation a) → (y : ReplicaState) → TakesOp a x y
        → HasRead editor bytes left y
    HasRead-op None read a d y takes = replay.HasRead-op [] bytes n text left x read a
        (is_op (denoted text) a (sym (alone (denoted text)) ∙ d)) y takes
    HasRead-op (Some s) read a d y takes = edit.HasRead-op s bytes n text left x read a d y takes

    -- and a command changes nothing
    pub HasRead-command : (editor : Option ℕ) → HasRead editor bytes ((n, text) ∷ left) x
        → (c : EditCommand) → denoted_by editor text ≡ Ok (entry.Command c)
        → HasRead editor bytes left x
    HasRead-command None read c d =
        absurd (no_command (denoted text) c (sym (alone (denoted text)) ∙ d))
    HasRead-command (Some s) read c d = edit.HasRead-command s bytes n text left x read c d x refl

    -- what an operation is refused for, the text is
    pub Refuses-op : (editor : Option ℕ) → HasRead editor bytes ((n, text) ∷ left) x → (a : Op)
        → denoted_by editor text ≡ Ok (entry.Operation a) → (e : ReadingError) → RefusesOp n a x e
        → RefusesChecked editor bytes e
    Refuses-op None read a d e r = replay.RefusesText-op [] bytes n text left x read a
        (is_op (denoted text) a (sym (alone (denoted text)) ∙ d)) e r
    Refuses-op (Some s) read a d e r = edit.RefusesEntries-op s bytes n text left x read a d e r

    -- and so for a line's own fault
    pub Refuses-fault : (editor : Option ℕ) → HasRead editor bytes ((n, text) ∷ left) x
        → (f : LineError) → denoted_by editor text ≡ Err f
        → RefusesChecked editor bytes (of_line n f)
    Refuses-fault None read f d = replay.RefusesText-fault [] bytes n text left x read f
        (is_fault (denoted text) f (sym (alone (denoted text)) ∙ d))
    Refuses-fault (Some s) read f d = edit.RefusesEntries-fault s bytes n text left x read f d
