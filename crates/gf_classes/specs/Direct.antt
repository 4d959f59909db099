-- Operations in classes by their direct conflicts (this project's choice).
use Rattle.std.specs.Prelude.{◌≡◌, ℕ, ◌<◌, Bool, false, List, length, Option, Some, None}
use Rattle.std.specs.Prelude.{slice_get, slice_index_or}
use Rattle.gf_ops.specs.declared.op.Op.{Op}
use Rattle.gf_groups.specs.VersionList.{in_direct_conflict}
use Rattle.gf_maximal.specs.Rows.{AreRows, conflict}
use Rattle.gf_classes.specs.Hiding.{hiding_site_at}

-- both operations are there, and conflict directly
abbrev pub both_direct : Option Op → Option Op → Bool
both_direct (Some a) (Some b) = in_direct_conflict a b
both_direct r s = false

-- the operations of h at the positions i and j conflict directly
abbrev pub direct_at : List Op → ℕ → ℕ → Bool
direct_at h i j = both_direct (slice_get h i) (slice_get h j)

-- the class of each of some operations, unless it conflicts directly with none of them. For each
-- class the classes that it conflicts with
pub record DirectState : Type 0 where
  pub classes : List (Option ℕ)
  pub rows : List (List ℕ)

-- the class of the operation with the index i
abbrev pub class_at : DirectState → ℕ → Option ℕ
class_at s i = slice_index_or s.classes i None

-- the position with the index i
abbrev pub place : List ℕ → ℕ → ℕ
place us i = slice_index_or us i 0

-- s has the classes of the operations of h at the positions us. Those of a class are rivals of the
-- same operations; and they hide their object at one site, or none of them hides it
pub record AreDirect (h : List Op) (us : List ℕ) (s : DirectState) : Type 0 where
  pub count : length s.classes ≡ length us
  pub rows : AreRows s.rows
  pub bound : (i k : ℕ) → class_at s i ≡ Some k → k < length s.rows
  pub free : (i j : ℕ) → i < length us → j < length us → class_at s i ≡ None
      → direct_at h (place us i) (place us j) ≡ false
  pub conflicts : (i j k l : ℕ) → class_at s i ≡ Some k → class_at s j ≡ Some l
      → direct_at h (place us i) (place us j) ≡ conflict s.rows k l
  pub parted : (i j k : ℕ) → class_at s i ≡ Some k → class_at s j ≡ Some k
      → hiding_site_at h (place us i) ≡ hiding_site_at h (place us j)
