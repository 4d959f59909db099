-- Which of some ids is the last that conflicts with an operation. No public clause cites this
-- module.
use Rattle.std.specs.Prelude.{◌≡◌, ◌<◌, ◌≤◌, List, Option, Some, None, Contains}
use Rattle.std.specs.Prelude.{⊤}
use Rattle.gf_ops.specs.declared.op.Op.{Op}
use Rattle.gf_ops.specs.declared.op.OpId.{OpId}
use Rattle.gf_ops.specs.AimTests.{ConflictsAt}
use Rattle.gf_ops.specs.Version.{IsMember}

-- all ids are of one site
abbrev pub AreOfOneSite : List OpId → Type 0
AreOfOneSite ids = (i j : OpId) → Contains ids i → Contains ids j → i.site ≡ j.site

-- the number of i is above that of the one before, if there is one
abbrev pub IsAbove : OpId → Option OpId → Type 0
IsAbove i None = ⊤
IsAbove i (Some l) = l.seq < i.seq

-- x conflicts directly with the operation under i, and with none of a higher number under the ids
pub record IsLastConflict (h : List Op) (ids : List OpId) (x : Op) (i : OpId) : Type 0 where
  pub listed : Contains ids i
  pub conflicts : ConflictsAt h x i
  pub last : (j : OpId) → Contains ids j → ConflictsAt h x j → j.seq ≤ i.seq

-- the id is the last one that x conflicts with; None, where x conflicts with none
abbrev pub TellsLast : List Op → List OpId → Op → Option OpId → Type 0
TellsLast h ids x None = (j : OpId) → Contains ids j → ¬ (ConflictsAt h x j)
TellsLast h ids x (Some i) = IsLastConflict h ids x i

-- of the ids, i is the last one that the operation under j conflicts with
pub record TellsAt (h : List Op) (ids : List OpId) (j i : OpId) : Type 0 where
  pub against : Op
  pub contained : Contains h against
  pub id : against.id ≡ j
  pub last : IsLastConflict h ids against i

-- of the ids, i is the last one that one of the others conflicts with
pub record TellsFrom (h : List Op) (ids others : List OpId) (i : OpId) : Type 0 where
  pub against : Op
  pub other : IsMember h others against
  pub last : IsLastConflict h ids against i
