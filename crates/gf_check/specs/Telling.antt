-- What is told so far. No public clause cites this module.
use Rattle.std.specs.Prelude.{◌≡◌, ◌↔◌, ℕ, List, [], ◌∷◌, ◌++◌, Contains, IsTrue}
use Rattle.std.specs.BTreeSet.{contains}
use Rattle.std.specs.Ordering.{nat_cmp, ordering_then}
use Rattle.std.specs.declared.cmp.Ordering.{Ordering}
use Rattle.gf_ops.specs.declared.op.OpId.{OpId}
use Rattle.gf_ops.specs.declared.faults.OpFault.{OpFault}
use Rattle.gf_ops.specs.declared.faults.OpFault.TheVariants as fault
use Rattle.gf_ops.specs.OperationOrder.{id_cmp}
use Rattle.gf_replay.specs.declared.reading_error.ReadingError.{ReadingError}
use Rattle.gf_replay.specs.declared.reading_error.ReadingError.TheVariants as reading
use Rattle.gf_check.specs.declared.telling.Telling.{Telling}
use Rattle.gf_check.specs.AllFaults.{TellsOnLines}
use Rattle.gf_check.specs.FaultLines.{Told, errors, told_text}

-- the place of a cause in the order of the checks
abbrev pub check_number : OpFault → ℕ
check_number fault.BadClock = 1
check_number fault.NoObject = 2
check_number fault.WrongKind = 3
check_number fault.BadAim = 4

-- the order of ids with the places of causes
abbrev pub drop_cmp : OpId × ℕ → OpId × ℕ → Ordering
drop_cmp p q = ordering_then (id_cmp p.0 q.0) (nat_cmp p.1 q.1)

-- the drop of an operation under the id i is kept with this cause
abbrev pub HasDrop : Telling → OpId → OpFault → Type 0
HasDrop t i why = IsTrue (contains drop_cmp t.drops (i, check_number why))

-- the text tells these faults, each explanation on one line, and the drops among them are kept
pub record HasTold (told : List Told) (t : Telling) : Type 0 where
  pub text : t.text.items ≡ told_text told
  pub plain : TellsOnLines told
  pub drops : (i : OpId) (why : OpFault) →
      HasDrop t i why ↔ Contains (errors told) (reading.Dropped i why)

-- this fault is told behind the others
pub record TellsOne (e : ReadingError) (told : List Told) (t : Telling) : Type 0 where
  pub why : List ℕ
  pub is : HasTold (told ++ record { error = e; why = why } ∷ []) t

-- this fault is told behind the others, or is among them
pub data TellsOnce (e : ReadingError) (told : List Told) (t : Telling) : Type 0 where
  again : Contains (errors told) e → HasTold told t → TellsOnce e told t
  anew : ¬ (Contains (errors told) e) → TellsOne e told t → TellsOnce e told t
