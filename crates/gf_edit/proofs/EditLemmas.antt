-- What becomes of what was read: the lines that are written, or the refusal.
use Rattle.std.specs.Prelude.{◌⊎◌, Ok, Err, None, Some, Option, IfErr, IfOk, IfSome, IsSomeAnd}
use Rattle.std.specs.Prelude.{Result, Vec}
use Rattle.std.proofs.Common.{ℕ, List, [], sym, subst, Global, inl, inr}
use Rattle.gf_streams.specs.TextLines.{numbered_lines}
use Rattle.gf_ops.specs.declared.op.Op.{Op}
use Rattle.gf_ops.specs.declared.op.OpId.{OpId}
use Rattle.gf_causal.specs.HeldOperations.{AreHeld}
use Rattle.gf_site.specs.SiteState.{SiteState, at_site}
use Rattle.gf_replay.specs.Denoting.{AreLinesOf}
use Rattle.gf_replay.proofs.TakingLemmas.{delivers}
use Rattle.gf_run.specs.declared.studio_error.StudioError.TheVariants as studio
use Rattle.gf_edit.specs.declared.edit_command.EditCommand.{EditCommand}
use Rattle.gf_edit.specs.declared.edit_error.EditError.{EditError}
use Rattle.gf_edit.specs.declared.edit_error.EditError.TheVariants as edit
use Rattle.gf_run.specs.declared.answering.Answer.{Answer}
use Rattle.gf_run.specs.Answers.{Refuses}
use Rattle.gf_run.specs.RefusedRuns.{IsOfRun}
use Rattle.gf_edit.specs.declared.made.Made.{Made}
use Rattle.gf_edit.specs.declared.numbered.Numbered.{Numbered}
use Rattle.gf_edit.specs.declared.reading.ReadLines.{ReadLines}
use Rattle.gf_edit.specs.Making.{HasRefused, Makes}
use Rattle.gf_edit.specs.RefusedCommands.{KeepsNone, RefusesFor}
use Rattle.gf_edit.specs.MakingSteps.{HasPassed, RefusesMaking}
use Rattle.gf_edit.specs.EditedText.{AreEntriesOf, AreDelivered, ops_in}
use Rattle.gf_edit.specs.EditRun.{Edits, HasBlocking, RefusesEdit, HasRefusedCommand, of_edit}
use Rattle.gf_edit.specs.EntrySteps.{HasReadEntries, HasReadLines, HoldsBlocking, IsUnblocked}
use Rattle.gf_edit.specs.EntrySteps.{RefusesWaiting}
use Rattle.gf_edit.proofs.BlockingLemmas.{first_blocks, none_blocks, waiting_taken}
use Rattle.gf_edit.proofs.CleanLemmas.{op_clean}
use Rattle.gf_edit.proofs.ReceivingLemmas.{lines_read}
use Rattle.gf_edit.proofs.WrittenLemmas.{op_shown, written_from}

module _ (s : ℕ) (bytes : List ℕ) (r : ReadLines) (all : HasReadLines s bytes [] r)
    (held : AreHeld r.replica.held) where
  abbrev read : HasReadEntries s bytes [] r.replica
  read = all.read

  all_lines : AreEntriesOf s (numbered_lines bytes) read.entries
  all_lines = lines_read s bytes r.replica read

  behind : IsUnblocked (at_site s r.replica) → AreDelivered s read.entries r.replica.ops
  behind none = record {
    delivers = delivers (ops_in read.entries) r.replica read.taken read.none;
    accepted = read.taken.accepted;
    free = none_blocks s (ops_in read.entries) r.replica
        (waiting_taken (ops_in read.entries) r.replica read.taken held) none;
  }

  -- the text has the lines of what the commands make
  pub edited : IsUnblocked (at_site s r.replica) → (y : SiteState) (e : Answer (Option Made))
      → HasPassed s r.replica.ops r.commands.items y e → Edits s bytes e.text.items e.value
  edited none y e p = record {
    new = p.new;
    denoted = record {
      entries = read.entries;
      lines = all_lines;
      history = r.replica.ops;
      behind = behind none;
      makes = subst (λ (cs : List Numbered). Makes s r.replica.ops cs p.new) all.commands p.makes;
    };
    is = p.is;
    told = p.told;
    denotes = subst (λ t. AreLinesOf (numbered_lines t) p.new) (sym p.is)
        (written_from 1 p.new (λ a i.
        record { whole = op_clean a; shown = op_shown a; denotes = p.reads a i }));
  }

  refused_command : IsUnblocked (at_site s r.replica)
      → (Refused : ℕ → List Op → EditCommand → Type 0) (n : ℕ)
      → HasRefused (Refused s) s r.replica.ops r.commands.items n
      → HasRefusedCommand (Refused s) s bytes n
  refused_command none Refused n f = record {
    entries = read.entries;
    lines = all_lines;
    history = r.replica.ops;
    behind = behind none;
    refusal = subst (λ (cs : List Numbered). HasRefused (Refused s) s r.replica.ops cs n)
        all.commands
        f;
  }

  -- what refuses a command refuses the edit
  pub refused : IsUnblocked (at_site s r.replica) → (e : EditError)
      → RefusesMaking s r.replica.ops r.commands.items e → RefusesEdit s bytes e
  refused none (edit.Refused n why) f = refused_command none (λ k. RefusesFor k why) n f
  refused none (edit.NoVersion n) f = refused_command none (λ k. KeepsNone) n f
  refused none (edit.Waits i j) f = absurd f
  refused none (edit.Run studio.OutOfMemory) f = tt
  refused none (edit.Run (studio.Line m why)) f = absurd f
  refused none (edit.Run (studio.Dropped id fault)) f = absurd f
  refused none (edit.Run (studio.Fig x)) f = absurd f
  refused none (edit.Run (studio.Compile x)) f = absurd f
  refused none (edit.Run (studio.NoObject o)) f = absurd f
  refused none (edit.Run studio.ReadFailed) f = absurd f
  refused none (edit.Run studio.TooLong) f = absurd f
  refused none (edit.Run studio.WriteFailed) f = absurd f

  -- and so does what blocks the site
  blocked : (i j : OpId) → HoldsBlocking (at_site s r.replica) i j → HasBlocking s bytes i j
  blocked i j b = record {
    entries = read.entries;
    lines = all_lines;
    history = r.replica.ops;
    delivers = delivers (ops_in read.entries) r.replica read.taken read.none;
    accepted = read.taken.accepted;
    op = b.op;
    blocking = first_blocks s (ops_in read.entries) r.replica
        (waiting_taken (ops_in read.entries) r.replica read.taken held) b.op b.first;
    named = b.named;
    waits = b.waits;
  }

  pub refused_waiting : (e : EditError) → RefusesWaiting (at_site s r.replica) e
      → RefusesEdit s bytes e
  refused_waiting (edit.Waits i j) f = blocked i j f
  refused_waiting (edit.Refused n why) f = absurd f
  refused_waiting (edit.NoVersion n) f = absurd f
  refused_waiting (edit.Run studio.OutOfMemory) f = tt
  refused_waiting (edit.Run (studio.Line m why)) f = absurd f
  refused_waiting (edit.Run (studio.Dropped id fault)) f = absurd f
  refused_waiting (edit.Run (studio.Fig x)) f = absurd f
  refused_waiting (edit.Run (studio.Compile x)) f = absurd f
  refused_waiting (edit.Run (studio.NoObject o)) f = absurd f
  refused_waiting (edit.Run studio.ReadFailed) f = absurd f
  refused_waiting (edit.Run studio.TooLong) f = absurd f
  refused_waiting (edit.Run studio.WriteFailed) f = absurd f

-- ---- the run

-- what may refuse any run may refuse an edit
of_any_run : (s : ℕ) (bytes : List ℕ) (e : EditError) → IsSomeAnd (of_edit e) IsOfRun
    → RefusesEdit s bytes e
of_any_run s bytes (edit.Run studio.ReadFailed) r = tt
of_any_run s bytes (edit.Run studio.TooLong) r = tt
of_any_run s bytes (edit.Run studio.OutOfMemory) r = tt
of_any_run s bytes (edit.Run studio.WriteFailed) r = tt
of_any_run s bytes (edit.Run (studio.Line m why)) r = absurd r
of_any_run s bytes (edit.Run (studio.Dropped id fault)) r = absurd r
of_any_run s bytes (edit.Run (studio.Fig x)) r = absurd r
of_any_run s bytes (edit.Run (studio.Compile x)) r = absurd r
of_any_run s bytes (edit.Run (studio.NoObject o)) r = absurd r
of_any_run s bytes (edit.Waits i j) r = absurd r
of_any_run s bytes (edit.Refused n why) r = absurd r
of_any_run s bytes (edit.NoVersion n) r = absurd r

-- Gives relates bytes to what they make, and refuses them as an edit is refused
module _ (Gives : Vec ℕ Global → Result (Answer (Option Made)) EditError → Type 0) (s : ℕ)
    (tells : (given : Vec ℕ Global) (e : EditError) → Gives given (Err e)
    → RefusesEdit s given.items e) where
  refuses_left : (left : Option (List ℕ)) (e : EditError)
      → Refuses Gives left e ⊎ IsSomeAnd (of_edit e) IsOfRun
      → IfSome left (λ bytes. RefusesEdit s bytes e)
  refuses_left None e r = tt
  refuses_left (Some bytes) e (inl r) = subst (λ b. RefusesEdit s b e) r.bytes_are
      (tells r.given e r.gives)
  refuses_left (Some bytes) e (inr r) = of_any_run s bytes e r

  pub run_refuses : {X : Type 0} (left : Option (List ℕ)) (r : Result X EditError)
      → IfErr r (λ e. Refuses Gives left e ⊎ IsSomeAnd (of_edit e) IsOfRun)
      → IfErr r (λ e. IfSome left (λ bytes. RefusesEdit s bytes e))
  run_refuses left (Ok x) f = tt
  run_refuses left (Err e) f = refuses_left left e f

-- ---- both answers of making

pub edited_ok : (s : ℕ) (r : ReadLines) → AreHeld r.replica.held
    → IsUnblocked (at_site s r.replica) → (y : SiteState) (m : Result (Answer (Option Made)) EditError) →
    IfOk m (HasPassed s r.replica.ops r.commands.items y)
    → IfOk m (λ e. (bytes : List ℕ) → HasReadLines s bytes [] r
    → Edits s bytes e.text.items e.value)
edited_ok s r held none y (Ok e) p = λ bytes read. edited s bytes r read held none y e p
edited_ok s r held none y (Err e) p = tt

pub refused_err : {X : Type 0} (s : ℕ) (r : ReadLines) → AreHeld r.replica.held
    → IsUnblocked (at_site s r.replica) → (m : Result X EditError) →
    IfErr m (RefusesMaking s r.replica.ops r.commands.items)
    → IfErr m (λ e. (bytes : List ℕ) → HasReadLines s bytes [] r → RefusesEdit s bytes e)
refused_err s r held none (Ok x) f = tt
refused_err s r held none (Err e) f = λ bytes read. refused s bytes r read held none e f
