-- How what was read grows by a line, and what a refused line says of the text.
use Rattle.std.specs.Prelude.{◌⊎◌, Ok, Err, IfErr, OnOk, Result, Vec, ⊤}
use Rattle.std.proofs.Common.{◌≡◌, ℕ, List, [], ◌∷◌, ◌++◌, map, refl, sym, ap, subst, ◌∙◌}
use Rattle.std.proofs.Common.{Global, append_assoc, inl, inr}
use Rattle.std.proofs.lemmas.List.{map-append, append-nil}
use Rattle.std.proofs.lemmas.List.Concat.{flat_map-append}
use Rattle.std.proofs.lemmas.Result.{MatchResult-weaker, on_ok_weaker}
use Rattle.gf_streams.specs.TextLines.{numbered_lines}
use Rattle.gf_ops.specs.declared.op.Op.{Op}
use Rattle.gf_ops.specs.declared.op.OpId.{OpId}
use Rattle.gf_ops.specs.declared.faults.OpFault.{OpFault}
use Rattle.gf_base.proofs.ListLemmas.{not_Contains-nil}
use Rattle.gf_causal.specs.Ready.{NoneIsReady}
use Rattle.gf_site.specs.ReplicaState.{ReplicaState, new_replica}
use Rattle.gf_json.specs.declared.line_error.LineError.{LineError}
use Rattle.gf_json.specs.declared.line_error.LineError.TheVariants as line
use Rattle.gf_json.specs.LineValues.{Got}
use Rattle.gf_replay.specs.declared.reading_error.LineCause.{LineCause}
use Rattle.gf_replay.specs.declared.reading_error.LineCause.TheVariants as cause
use Rattle.gf_replay.specs.declared.reading_error.ReadingError.{ReadingError}
use Rattle.gf_replay.specs.declared.reading_error.ReadingError.TheVariants as reading
use Rattle.gf_replay.specs.Taking.{DropsBehind, HasTaken, RefusesOp, TakesOp, of_line}
use Rattle.gf_replay.proofs.GotLemmas.{denotes_read, fault_read}
use Rattle.gf_replay.proofs.ReadingLemmas.{none_taken}
use Rattle.gf_replay.proofs.TakingLemmas.{HasTaken-moves, HasTaken-offer, delivers, other_taken}
use Rattle.gf_replay.proofs.TakingLemmas.{taken_delivery}
use Rattle.gf_edit.specs.declared.edit_command.EditCommand.{EditCommand}
use Rattle.gf_edit.specs.declared.entries.Entry.{Entry}
use Rattle.gf_edit.specs.declared.entries.Entry.TheVariants as entry
use Rattle.gf_edit.specs.declared.numbered.Numbered.{Numbered}
use Rattle.gf_edit.specs.declared.reading.ReadLines.{ReadLines}
use Rattle.gf_edit.specs.Entries.{entry_denoted}
use Rattle.gf_edit.specs.EditedText.{AreEntriesOf, command_in, commands_in, denotes_entry, entry_at}
use Rattle.gf_edit.specs.EditedText.{op_in, ops_in}
use Rattle.gf_edit.specs.EditFaults.{DropsAt, HasLineFault, IsAtLine, IsEntryFault, RefusesEntries}
use Rattle.gf_edit.specs.EntrySteps.{HasReadEntries, HasReadLines}

-- ---- before the first line and behind the last

-- before the first line nothing was taken
abbrev pub HasRead-none : (s : ℕ) (bytes : List ℕ) (left : List (ℕ × List ℕ)) (x : ReplicaState)
    → left ≡ numbered_lines bytes → x ≡ new_replica → HasReadEntries s bytes left x
HasRead-none s bytes left x all new = record {
  before = [];
  whole = sym all;
  entries = [];
  lines = refl;
  taken = subst (HasTaken []) (sym new) none_taken;
  none = subst (λ (y : ReplicaState). NoneIsReady y.ops y.held) (sym new)
      (λ a i r. not_Contains-nil a i);
}

-- with no line left, the entries are those of all lines
pub lines_read : (s : ℕ) (bytes : List ℕ) (x : ReplicaState) (read : HasReadEntries s bytes [] x)
    → AreEntriesOf s (numbered_lines bytes) read.entries
lines_read s bytes x read = ap (map (entry_at s)) (read.whole ∙ append-nil read.before) ∙ read.lines

-- ---- one line

pub ops_more : (entries : List (ℕ × Entry)) (n : ℕ) (e : Entry)
    → ops_in (entries ++ (n, e) ∷ []) ≡ ops_in entries ++ op_in e
ops_more entries n e = flat_map-append (λ (x : ℕ × Entry). op_in x.1) entries ((n, e) ∷ [])
    ∙ ap (λ l. ops_in entries ++ l) (append-nil (op_in e))

commands_more : (entries : List (ℕ × Entry)) (n : ℕ) (e : Entry)
    → commands_in (entries ++ (n, e) ∷ []) ≡ commands_in entries ++ command_in n e
commands_more entries n e = flat_map-append (λ (x : ℕ × Entry). command_in x.0 x.1) entries
    ((n, e) ∷ []) ∙ ap (λ l. commands_in entries ++ l) (append-nil (command_in n e))

module _ (s : ℕ) (bytes : List ℕ) (n : ℕ) (text : List ℕ) (left : List (ℕ × List ℕ))
    (x : ReplicaState) (read : HasReadEntries s bytes ((n, text) ∷ left) x) where
  -- with the entry of the line, its operation was taken, if it has one
  abbrev entry_read : (e : Entry) → entry_denoted s text ≡ Ok e → (y : ReplicaState)
      → HasTaken (ops_in read.entries ++ op_in e) y → NoneIsReady y.ops y.held
      → HasReadEntries s bytes left y
  entry_read e denotes y taken none = record {
    before = read.before ++ (n, text) ∷ [];
    whole = read.whole ∙ sym (append_assoc read.before ((n, text) ∷ []) left);
    entries = read.entries ++ (n, e) ∷ [];
    lines =
        map-append (entry_at s) read.before ((n, text) ∷ [])
        ∙ (ap (λ r. r ++ (n, entry_denoted s text) ∷ []) read.lines
        ∙ (ap (λ r. map denotes_entry read.entries ++ (n, r) ∷ []) denotes
        ∙ sym (map-append denotes_entry read.entries ((n, e) ∷ []))));
    taken = subst (λ l. HasTaken l y) (sym (ops_more read.entries n e)) taken;
    none = none;
  }

  -- an operation more is taken
  abbrev pub HasRead-op : (a : Op) → entry_denoted s text ≡ Ok (entry.Operation a) → (y : ReplicaState)
      → TakesOp a x y → HasReadEntries s bytes left y
  HasRead-op a denotes y takes = entry_read (entry.Operation a) denotes y
      (HasTaken-moves (ops_in read.entries ++ a ∷ []) takes.offered y
      (HasTaken-offer (ops_in read.entries) x read.taken a takes.offered takes.offers)
      takes.steps.moves) takes.steps.none

  -- and a command changes nothing
  abbrev pub HasRead-command : (c : EditCommand) → entry_denoted s text ≡ Ok (entry.Command c)
      → (y : ReplicaState) → y ≡ x → HasReadEntries s bytes left y
  HasRead-command c denotes y same = entry_read (entry.Command c) denotes y
      (subst (HasTaken (ops_in read.entries ++ [])) (sym same)
      (subst (λ l. HasTaken l x) (sym (append-nil (ops_in read.entries))) read.taken))
      (subst (λ (z : ReplicaState). NoneIsReady z.ops z.held) (sym same) read.none)

  abbrev at_line : IsAtLine s bytes n text
  at_line = record {
    before = read.before;
    after = left;
    whole = read.whole;
    entries = read.entries;
    lines = read.lines;
    history = x.ops;
    delivers = delivers (ops_in read.entries) x read.taken read.none;
  }

  fault_at : (why : LineCause) → IsEntryFault s (ops_in read.entries) text why
      → HasLineFault s bytes n why
  fault_at why f = record { line = text; at = at_line; fault = f }

  dropped : (a : Op) → entry_denoted s text ≡ Ok (entry.Operation a) → (id : OpId) (fault : OpFault)
      → DropsBehind a x id fault → DropsAt s bytes id fault
  dropped a denotes id fault b =
      let ops = ops_in read.entries ++ a ∷ [] in
      let offered = HasTaken-offer (ops_in read.entries) x read.taken a b.offered b.offers in
      let moved = HasTaken-moves ops b.offered b.drops.state offered b.drops.moves in
      record {
        number = n;
        line = text;
        at = at_line;
        last = a;
        denotes = denotes;
        one = offered.one;
        history = b.drops.state.ops;
        delivery = taken_delivery ops b.drops.state moved;
        valid = moved.valid;
        op = b.drops.op;
        there = (offered.all b.drops.op).1 b.drops.there;
        named = b.drops.named;
        ready = b.drops.ready;
        refused = b.drops.refused;
      }

  -- what its operation is refused for, the text is
  pub RefusesEntries-op : (a : Op) → entry_denoted s text ≡ Ok (entry.Operation a)
      → (e : ReadingError) → RefusesOp n a x e → RefusesEntries s bytes e
  RefusesEntries-op a denotes (reading.Line m cause.Clash) r = subst
      (λ k. HasLineFault s bytes k cause.Clash) (sym r.0)
      (fault_at cause.Clash (record {
        op = a;
        denotes = denotes;
        other = other_taken (ops_in read.entries) x read.taken a r.1;
      }))
  RefusesEntries-op a denotes (reading.Line m cause.Json) r = absurd r
  RefusesEntries-op a denotes (reading.Line m cause.Field) r = absurd r
  RefusesEntries-op a denotes (reading.Line m cause.Range) r = absurd r
  RefusesEntries-op a denotes (reading.Dropped id fault) r = dropped a denotes id fault r
  RefusesEntries-op a denotes reading.OutOfMemory r = tt

  -- and for its own fault
  pub RefusesEntries-fault : (fault : LineError) → entry_denoted s text ≡ Err fault
      → RefusesEntries s bytes (of_line n fault)
  RefusesEntries-fault line.Json f = fault_at cause.Json f
  RefusesEntries-fault line.Field f = fault_at cause.Field f
  RefusesEntries-fault line.Range f = fault_at cause.Range f
  RefusesEntries-fault line.OutOfMemory f = tt

-- ---- what was read of the lines

pub lines_none : (s : ℕ) (bytes : List ℕ) (left : List (ℕ × List ℕ)) (r : ReadLines)
    → left ≡ numbered_lines bytes → r.replica ≡ new_replica → r.commands.items ≡ []
    → HasReadLines s bytes left r
lines_none s bytes left r all new commands = record {
  read = HasRead-none s bytes left r.replica all new;
  commands = commands;
}

module _ (s : ℕ) (bytes : List ℕ) (n : ℕ) (text : List ℕ) (left : List (ℕ × List ℕ)) (r : ReadLines)
    (has : HasReadLines s bytes ((n, text) ∷ left) r) (q : Got Entry)
    (known : (q ≡ Err line.OutOfMemory) ⊎ (q ≡ entry_denoted s text)) where
  denotes : (e : Entry) → q ≡ Ok e → entry_denoted s text ≡ Ok e
  denotes e is = denotes_read q (entry_denoted s text) e known is

  pub lines_op : (a : Op) → q ≡ Ok (entry.Operation a) → (y : ReadLines)
      → y.commands ≡ r.commands → {E : Type 0} (f : Result ⊤ E)
      → OnOk f (TakesOp a r.replica y.replica) → OnOk f (HasReadLines s bytes left y)
  lines_op a is y same f takes = on_ok_weaker f (λ t. record {
    read = HasRead-op s bytes n text left r.replica has.read a (denotes (entry.Operation a) is)
        y.replica t;
    commands = ap (λ (c : Vec Numbered Global). c.items) same ∙ (has.commands
        ∙ (sym (append-nil (commands_in has.read.entries))
        ∙ sym (commands_more has.read.entries n (entry.Operation a))));
  }) takes

  pub refused_op : (a : Op) → q ≡ Ok (entry.Operation a) → {X : Type 0} (f : Result X ReadingError)
      → IfErr f (RefusesOp n a r.replica) → IfErr f (RefusesEntries s bytes)
  refused_op a is f refused = MatchResult-weaker f refused (λ x t. t)
      (RefusesEntries-op s bytes n text left r.replica has.read a (denotes (entry.Operation a) is))

  pub lines_command : (c : EditCommand) → q ≡ Ok (entry.Command c) → (y : ReadLines)
      → y.replica ≡ r.replica
      → y.commands.items ≡ r.commands.items ++ record { line = n; command = c } ∷ []
      → HasReadLines s bytes left y
  lines_command c is y same more = record {
    read = HasRead-command s bytes n text left r.replica has.read c (denotes (entry.Command c) is)
        y.replica same;
    commands = more ∙ (ap (λ l. l ++ record { line = n; command = c } ∷ []) has.commands
        ∙ sym (commands_more has.read.entries n (entry.Command c)));
  }

  pub refused_fault : (fault : LineError) → q ≡ Err fault
      → RefusesEntries s bytes (of_line n fault)
  refused_fault fault is = elim (fault_read q (entry_denoted s text) fault known is) [
    | inl m ↦ subst (λ e. RefusesEntries s bytes (of_line n e)) (sym m) tt
    | inr d ↦ RefusesEntries-fault s bytes n text left r.replica has.read fault d
  ]
