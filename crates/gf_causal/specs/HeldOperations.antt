-- The operations that a buffer holds, and what an offer or a taking does to them (this project's
-- choice).
use Rattle.std.specs.Prelude.{◌≡◌, ◌≢◌, ◌⊎◌, List, ◌∷◌, ◌++◌, Contains}
use Rattle.std.specs.Prelude.{map}
use Rattle.std.specs.declared.cmp.Ordering.TheVariants.{Less}
use Rattle.std.specs.List.Sorted.{IsStrictlySortedBy}
use Rattle.gf_ops.specs.declared.op.Op.{Op}
use Rattle.gf_ops.specs.declared.op.OpId.{OpId}
use Rattle.gf_ops.specs.Limits.{IsInRange}
use Rattle.gf_ops.specs.OperationOrder.{id_cmp}
use Rattle.gf_causal.specs.Ready.{IsReady}

-- the ids of the operations, in their order
abbrev pub ids_of : List Op → List OpId
ids_of ops = map (λ a. a.id) ops

-- held operations keep all limits, and their ids rise: each id stands once
pub record AreHeld (held : List Op) : Type 0 where
  pub in_range : (a : Op) → Contains held a → IsInRange a
  pub rising : IsStrictlySortedBy id_cmp (ids_of held)

-- no operation of the list stands under the id i
abbrev pub IsFree : List Op → OpId → Type 0
IsFree ops i = (a : Op) → Contains ops a → a.id ≢ i

-- the list has another operation under the id of a
pub record HasOther (ops : List Op) (a : Op) : Type 0 where
  pub other : Op
  pub contained : Contains ops other
  pub id : other.id ≡ a.id
  pub differs : other ≢ a

-- another operation under the id of a is held or in the history h
abbrev pub IsClash : List Op → List Op → Op → Type 0
IsClash held h a = HasOther held a ⊎ HasOther h a

-- a is held or in the history h, and no other operation under its id is
pub record IsKnown (held h : List Op) (a : Op) : Type 0 where
  pub known : Contains held a ⊎ Contains h a
  pub alone : ¬ (IsClash held h a)

-- no operation under the id of a is held or in the history h
pub record IsNew (held h : List Op) (a : Op) : Type 0 where
  pub not_held : IsFree held a.id
  pub not_added : IsFree h a.id

-- the list more is the list ops with a at some place, and nothing else
pub record Adds (ops : List Op) (a : Op) (more : List Op) : Type 0 where
  pub before : List Op
  pub after : List Op
  pub without : ops ≡ before ++ after
  pub with_it : more ≡ before ++ a ∷ after

-- of the held operations that are ready behind h, a has the least id
pub record IsFirstReady (held h : List Op) (a : Op) : Type 0 where
  pub contained : Contains held a
  pub ready : IsReady h a
  pub least : (b : Op) → Contains held b → IsReady h b → id_cmp b.id a.id ≢ Less
