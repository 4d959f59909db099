-- How the operations of the lines grow, and what a refused line says of the text.
use Rattle.std.specs.Prelude.{Err, IfErr, OnOk, Result, ⊤}
use Rattle.std.proofs.Common.{◌≡◌, ℕ, List, [], ◌∷◌, ◌++◌, drop, length, map, refl, sym, ap, subst}
use Rattle.std.proofs.Common.{◌∙◌, append_assoc, inl, inr, Ok}
use Rattle.std.proofs.lemmas.List.{map-append, append-nil}
use Rattle.std.proofs.lemmas.Result.{MatchResult-weaker, on_ok_weaker}
use Rattle.gf_ops.specs.declared.op.Op.{Op}
use Rattle.gf_ops.specs.declared.op.OpId.{OpId}
use Rattle.gf_ops.specs.declared.faults.OpFault.{OpFault}
use Rattle.gf_json.specs.LineValues.{Got}
use Rattle.gf_json.specs.OperationLines.{denoted}
use Rattle.gf_json.specs.declared.line_error.LineError.{LineError}
use Rattle.gf_json.specs.declared.line_error.LineError.TheVariants as line
use Rattle.gf_site.specs.ReplicaState.{ReplicaState, new_replica}
use Rattle.gf_site.proofs.ValidLemmas.{valid_nil}
use Rattle.gf_ops.specs.Accepted.{none as none_accepted}
use Rattle.gf_base.proofs.ListLemmas.{not_Contains-nil}
use Rattle.gf_replay.specs.Taking.{HasTaken}
use Rattle.gf_replay.specs.declared.reading_error.LineCause.{LineCause}
use Rattle.gf_replay.specs.declared.reading_error.LineCause.TheVariants as cause
use Rattle.gf_replay.specs.declared.reading_error.ReadingError.{ReadingError}
use Rattle.gf_replay.specs.declared.reading_error.ReadingError.TheVariants as reading
use Rattle.gf_causal.specs.HeldOperations.{AreHeld}
use Rattle.gf_replay.specs.Behind.{DeliversLines, Divides, HasDelivered}
use Rattle.gf_streams.specs.TextLines.{numbered_lines}
use Rattle.gf_replay.specs.Denoting.{Denotes}
use Rattle.gf_replay.specs.Refusing.{Drops, HasFault, IsAt, IsFault, RefusesText}
use Rattle.gf_replay.specs.Taking.{DropsBehind, RefusesOp, TakesOp, of_line}
use Rattle.gf_replay.specs.LineSteps.{HasRead}
use Rattle.gf_replay.specs.Waiting.{DenotesWaiting}
use Rattle.gf_replay.specs.declared.blocks.Reading.{Reading}
use Rattle.gf_replay.specs.Blocks.{AreFirstReadings, AreOfLines, IsBefore, IsReading}
use Rattle.gf_replay.proofs.GotLemmas.{denotes_read, fault_read}
use Rattle.gf_replay.proofs.TakingLemmas.{HasTaken-moves, HasTaken-offer, delivers, other_taken}
use Rattle.gf_replay.proofs.TakingLemmas.{taken_delivery, waiting}

-- ---- behind the last line

-- with no line left, all are taken
pub DeliversLines-read : (known : List Op) (bytes : List ℕ) (x : ReplicaState)
    → HasRead known bytes [] x → DeliversLines known bytes x
DeliversLines-read known bytes x read = record {
  ops = read.ops;
  lines = ap (map (λ (l : ℕ × List ℕ). denoted l.1)) (read.whole ∙ append-nil read.before)
      ∙ read.lines;
  delivered = record { taken = read.taken; none = read.none };
}

-- a new replica has taken nothing
pub none_taken : HasTaken [] new_replica
none_taken = record {
  one = λ a b i j e. absurd (not_Contains-nil a i);
  all = λ a. (
    λ i. absurd (not_Contains-nil a i),
    λ i. elim i [ inl j ↦ absurd (not_Contains-nil a j) | inr j ↦ absurd (not_Contains-nil a j) ],
  );
  others = λ a i. absurd (not_Contains-nil a i);
  accepted = none_accepted;
  valid = valid_nil;
}

-- and holds nothing that is ready
pub none_delivered : HasDelivered [] new_replica
none_delivered = record { taken = none_taken; none = λ a i r. not_Contains-nil a i }

-- before the first line nothing of the lines is taken
pub HasRead-begun : (known : List Op) (bytes : List ℕ) (x : ReplicaState) → HasDelivered known x
    → HasRead known bytes (numbered_lines bytes) x
HasRead-begun known bytes x d = record {
  before = [];
  whole = refl;
  ops = [];
  lines = refl;
  taken = rw (append-nil known) d.taken;
  none = d.none;
}

-- what was given is delivered, or waits
pub divided : (ops : List Op) (x : ReplicaState) → HasDelivered ops x → AreHeld x.held
    → Divides ops x.ops x.held
divided ops x d held = record {
  delivers = delivers ops x d.taken d.none;
  others = waiting ops x d.taken held;
}

-- what a new replica was given denotes its history
pub Denotes-read : (bytes : List ℕ) (x : ReplicaState) → DeliversLines [] bytes x
    → Denotes bytes x.ops
Denotes-read bytes x read = record {
  ops = read.ops;
  lines = read.lines;
  delivers = delivers read.ops x read.delivered.taken read.delivered.none;
}

-- and what is held waits
pub DenotesWaiting-read : (bytes : List ℕ) (x : ReplicaState) → DeliversLines [] bytes x
    → AreHeld x.held → DenotesWaiting bytes x.ops x.held
DenotesWaiting-read bytes x read held = record {
  ops = read.ops;
  lines = read.lines;
  delivers = delivers read.ops x read.delivered.taken read.delivered.none;
  others = waiting read.ops x read.delivered.taken held;
}

-- ---- one line

module _ (known : List Op) (bytes : List ℕ) (n : ℕ) (text : List ℕ) (left : List (ℕ × List ℕ))
    (x : ReplicaState) (read : HasRead known bytes ((n, text) ∷ left) x) where
  abbrev so_far : List Op
  so_far = known ++ read.ops

  -- one operation more is taken
  pub HasRead-op : (a : Op) → denoted text ≡ Ok a → (y : ReplicaState) → TakesOp a x y
      → HasRead known bytes left y
  HasRead-op a denotes y takes = record {
    before = read.before ++ (n, text) ∷ [];
    whole = read.whole ∙ sym (append_assoc read.before ((n, text) ∷ []) left);
    ops = read.ops ++ a ∷ [];
    lines =
        map-append (λ (l : ℕ × List ℕ). denoted l.1) read.before ((n, text) ∷ [])
        ∙ (ap (λ r. r ++ denoted text ∷ []) read.lines
        ∙ (ap (λ (r : Got Op). map Ok read.ops ++ r ∷ []) denotes
        ∙ sym (map-append {B = Got Op} Ok read.ops (a ∷ []))));
    taken = subst (λ (os : List Op). HasTaken os y) (append_assoc known read.ops (a ∷ []))
        (HasTaken-moves (so_far ++ a ∷ []) takes.offered y
        (HasTaken-offer so_far x read.taken a takes.offered takes.offers) takes.steps.moves);
    none = takes.steps.none;
  }

  abbrev at_line : IsAt known bytes n text
  at_line = record {
    before = read.before;
    behind = left;
    whole = read.whole;
    ops = read.ops;
    lines = read.lines;
    history = x.ops;
    delivers = delivers so_far x read.taken read.none;
  }

  fault_at : (why : LineCause) → IsFault so_far text why → HasFault known bytes n why
  fault_at why f = record { line = text; at = at_line; fault = f }

  dropped : (a : Op) → denoted text ≡ Ok a → (id : OpId) (fault : OpFault)
      → DropsBehind a x id fault → Drops known bytes id fault
  dropped a denotes id fault b =
      let ops = so_far ++ a ∷ [] in
      let offered = HasTaken-offer so_far x read.taken a b.offered b.offers in
      let moved = HasTaken-moves ops b.offered b.drops.state offered b.drops.moves in
      record {
        number = n;
        line = text;
        at = at_line;
        last = a;
        denotes = denotes;
        one = offered.one;
        history = b.drops.state.ops;
        delivery = taken_delivery ops b.drops.state moved;
        valid = moved.valid;
        op = b.drops.op;
        there = (offered.all b.drops.op).1 b.drops.there;
        named = b.drops.named;
        ready = b.drops.ready;
        refused = b.drops.refused;
      }

  -- what its operation is refused for, the text is
  pub RefusesText-op : (a : Op) → denoted text ≡ Ok a → (e : ReadingError) → RefusesOp n a x e
      → RefusesText known bytes e
  RefusesText-op a denotes (reading.Line m cause.Clash) r = subst
      (λ k. HasFault known bytes k cause.Clash) (sym r.0) (fault_at cause.Clash (record {
        op = a;
        denotes = denotes;
        other = other_taken so_far x read.taken a r.1;
      }))
  RefusesText-op a denotes (reading.Line m cause.Json) r = absurd r
  RefusesText-op a denotes (reading.Line m cause.Field) r = absurd r
  RefusesText-op a denotes (reading.Line m cause.Range) r = absurd r
  RefusesText-op a denotes (reading.Dropped id fault) r = dropped a denotes id fault r
  RefusesText-op a denotes reading.OutOfMemory r = tt

  -- and for its own fault
  pub RefusesText-fault : (f : LineError) → denoted text ≡ Err f
      → RefusesText known bytes (of_line n f)
  RefusesText-fault line.Json e = fault_at cause.Json e
  RefusesText-fault line.Field e = fault_at cause.Field e
  RefusesText-fault line.Range e = fault_at cause.Range e
  RefusesText-fault line.OutOfMemory e = tt

-- ---- what a line was read as

module _ (known : List Op) (bytes : List ℕ) (k : ℕ × List ℕ) (left : List (ℕ × List ℕ))
    (x : ReplicaState) (read : HasRead known bytes (k ∷ left) x) (r : Reading)
    (reads : IsReading k r) where
  denotes : (a : Op) → r.op ≡ Ok a → denoted k.1 ≡ Ok a
  denotes a is = denotes_read r.op (denoted k.1) a reads.denoted is

  pub op_taken_of : (a : Op) → r.op ≡ Ok a → (y : ReplicaState) {E : Type 0} (f : Result ⊤ E)
      → OnOk f (TakesOp a x y) → OnOk f (HasRead known bytes left y)
  op_taken_of a is y f takes = on_ok_weaker f
      (HasRead-op known bytes k.0 k.1 left x read a (denotes a is) y) takes

  pub op_refused_of : (a : Op) → r.op ≡ Ok a → {X : Type 0} (f : Result X ReadingError)
      → IfErr f (RefusesOp r.number a x) → IfErr f (RefusesText known bytes)
  op_refused_of a is f refused = MatchResult-weaker f refused (λ z t. t)
      (λ e b. RefusesText-op known bytes k.0 k.1 left x read a (denotes a is) e
      (subst (λ n. RefusesOp n a x e) reads.number b))

  pub fault_refused_of : (f : LineError) → r.op ≡ Err f
      → RefusesText known bytes (of_line r.number f)
  fault_refused_of f is = elim (fault_read r.op (denoted k.1) f reads.denoted is) [
    | inl m ↦ subst (λ e. RefusesText known bytes (of_line r.number e)) (sym m) tt
    | inr d ↦ subst (λ n. RefusesText known bytes (of_line n f)) (sym reads.number)
        (RefusesText-fault known bytes k.0 k.1 left x read f d)
  ]

-- ---- the lines of a block

-- the first line of a block with a reading, and those behind it
record IsParted (lines : List (ℕ × List ℕ)) (r : Reading) (rs : List Reading) : Type 0 where
  pub line : ℕ × List ℕ
  pub others : List (ℕ × List ℕ)
  pub is : lines ≡ line ∷ others
  pub reading : IsReading line r
  pub rest : AreFirstReadings others rs

parted : (lines : List (ℕ × List ℕ)) (r : Reading) (rs : List Reading)
    → AreFirstReadings lines (r ∷ rs) → IsParted lines r rs
parted [] r rs first = absurd first
parted (l ∷ ls) r rs first = record {
  line = l;
  others = ls;
  is = refl;
  reading = first.0;
  rest = first.1;
}

pub AreOfLines-rest : (r : Reading) (rs : List Reading) → AreOfLines (r ∷ rs) → AreOfLines rs
AreOfLines-rest r rs block = let p = parted block.lines r rs block.first in
    record { lines = p.others; first = p.rest }

module _ (known : List Op) (text : List ℕ) (r : Reading) (rs : List Reading)
    (others : List (ℕ × List ℕ)) (x : ReplicaState)
    (before : IsBefore known text (r ∷ rs) others x) where
  first_line : IsParted before.lines r rs
  first_line = parted before.lines r rs before.first

  read_so_far : HasRead known text (first_line.line ∷ first_line.others) x
  read_so_far = subst (λ z. HasRead known text z x) first_line.is before.read

  -- what was read first is taken
  pub IsBefore-line : (y : ReplicaState)
      → ((line : ℕ × List ℕ) → IsReading line r → (all : List Op) (bytes : List ℕ)
      (left : List (ℕ × List ℕ)) → HasRead all bytes (line ∷ left) x → HasRead all bytes left y)
      → IsBefore known text rs others y
  IsBefore-line y takes = record {
    lines = first_line.others;
    read = takes first_line.line first_line.reading known text first_line.others read_so_far;
    first = first_line.rest;
    behind = before.behind ∙ ap (drop (length (r ∷ rs))) first_line.is;
  }

  -- what was read first is refused
  pub RefusesText-first : (e : ReadingError)
      → ((line : ℕ × List ℕ) → IsReading line r → (all : List Op) (bytes : List ℕ)
      (left : List (ℕ × List ℕ)) → HasRead all bytes (line ∷ left) x → RefusesText all bytes e)
      → RefusesText known text e
  RefusesText-first e refuses = refuses first_line.line first_line.reading known text
      first_line.others read_so_far

-- with nothing left of a block, the lines behind it are left
pub HasRead-block : (known : List Op) (text : List ℕ) (readings : List Reading)
    (others : List (ℕ × List ℕ)) (x : ReplicaState) → length readings ≡ 0
    → IsBefore known text readings others x → HasRead known text others x
HasRead-block known text readings others x none before = subst (λ z. HasRead known text z x)
    (sym (before.behind ∙ ap (λ n. drop n before.lines) none)) before.read
