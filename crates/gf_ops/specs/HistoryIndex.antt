-- How a history finds its operations. No public clause cites this module.
use Rattle.std.specs.Prelude.{◌≡◌, ℕ, ◌-◌, ◌<◌, ◌≤◌, List, [], length}
use Rattle.std.specs.Prelude.{slice_index, slice_index_or, Contains}
use Rattle.gf_ops.specs.declared.op.Op.{Op}
use Rattle.gf_ops.specs.declared.op.OpId.{OpId}
use Rattle.gf_ops.specs.declared.op.Clock.{Clock}
use Rattle.gf_ops.specs.Accepted.{AreAccepted}
use Rattle.gf_ops.specs.OperationOrder.{IsSite, entry, count_of}
use Rattle.gf_ops.specs.ValidHistory.{IsValid}

-- the number in the rows for the id i
abbrev pub position : List (List ℕ) → OpId → ℕ
position rows i = slice_index (slice_index_or rows (i.seq - 1) []) (i.site - 1)

-- the rows have the position in h of the operation under i
pub record IsIndexed (h : List Op) (rows : List (List ℕ)) (i : OpId) : Type 0 where
  pub row : i.seq - 1 < length rows
  pub op : Op
  pub within : position rows i < length h
  pub there : slice_index_or h (position rows i) op ≡ op
  pub id : op.id ≡ i

-- what every history keeps: each operation was accepted, so it is valid, and the clock counts its
-- operations. The numbers of each site run from 1 to its count, and the rows have their positions
pub record IsHistory (h : List Op) (rows : List (List ℕ)) (counts : Clock) : Type 0 where
  pub accepted : AreAccepted h
  pub valid : IsValid h
  pub counted : (s : ℕ) → IsSite s → entry counts s ≡ count_of h s
  pub reached : (a : Op) → Contains h a → a.id.seq ≤ count_of h a.id.site
  pub wide : (k : ℕ) → k < length rows → length (slice_index_or rows k []) ≡ 8
  pub placed : (i : OpId) → IsSite i.site → 1 ≤ i.seq → i.seq ≤ count_of h i.site
      → IsIndexed h rows i
