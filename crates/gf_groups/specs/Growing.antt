-- Conflicts and the order of operations, by their positions in a history (this project's choice).
use Rattle.std.specs.Prelude.{ℕ, Bool, false, not, ◌&&◌, ◌==◌, List, Option, Some, slice_get}
use Rattle.gf_ops.specs.declared.op.Op.{Op}
use Rattle.gf_groups.specs.VersionList.{in_conflict, is_before}

-- both operations are there, and conflict
abbrev pub both_conflict : List Op → Option Op → Option Op → Bool
both_conflict h (Some a) (Some b) = in_conflict h a b
both_conflict h r s = false

-- the operations of h at i and j, two positions, conflict
abbrev pub conflict_at : List Op → ℕ → ℕ → Bool
conflict_at h i j = not (i == j) && both_conflict h (slice_get h i) (slice_get h j)

-- there are two operations, and the first comes before the second
abbrev pub both_before : Option Op → Option Op → Bool
both_before (Some a) (Some b) = is_before a b
both_before a b = false

-- there are operations of h at i and j, two positions, and the first comes before the second
abbrev pub before_at : List Op → ℕ → ℕ → Bool
before_at h i j = both_before (slice_get h i) (slice_get h j)
