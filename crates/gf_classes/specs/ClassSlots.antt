-- The classes in which operations stand: direct classes, and behind them joint ones, of operations
-- that bring several classes or none. No public clause cites this module.
use Rattle.std.specs.Prelude.{◌≡◌, ◌↔◌, ◌⊎◌, ℕ, ◌+◌, ◌<◌, false, List, [], length, Contains}
use Rattle.std.specs.Prelude.{Option, Some, slice_get, slice_index_or}
use Rattle.gf_ops.specs.declared.op.Op.{Op}
use Rattle.gf_maximal.specs.Rows.{conflict}
use Rattle.gf_classes.specs.Hiding.{hiding_site_at}
use Rattle.gf_classes.specs.Direct.{DirectState, class_at, place}
use Rattle.gf_classes.specs.Own.{Owns}

-- for each joint class the direct classes that its operations bring, and the site that they hide at
pub record JointsState : Type 0 where
  pub owns : List (List ℕ)
  pub sites : List ℕ

-- the joint class j brings these classes, and has the site
pub record IsJointAt (js : JointsState) (own : List ℕ) (site j : ℕ) : Type 0 where
  pub brings : slice_get js.owns j ≡ Some own
  pub hides : slice_get js.sites j ≡ Some site

-- the joint classes are still there
abbrev pub KeepsJoints : JointsState → JointsState → Type 0
KeepsJoints old new =
    (own : List ℕ) (site j : ℕ) → IsJointAt old own site j → IsJointAt new own site j

-- slot is the class of an operation of this direct class that brings the classes own. It is the
-- direct class where there is no other, or a joint one behind the n direct ones
abbrev pub IsOwnSlot : ℕ → Option ℕ → List ℕ → ℕ → JointsState → ℕ → Type 0
IsOwnSlot n class own site js slot =
    ((class ≡ Some slot) × ((k : ℕ) → Contains own k → k ≡ slot))
    ⊎ ((j : ℕ) × (slot ≡ n + j) × IsJointAt js own site j)

-- no two classes of the set conflict
abbrev pub IsCalm : List (List ℕ) → List ℕ → Type 0
IsCalm rows own = (k l : ℕ) → Contains own k → Contains own l → conflict rows k l ≡ false

-- no two classes of one of the sets conflict
abbrev pub AreCalm : List (List ℕ) → List (List ℕ) → Type 0
AreCalm rows owns = (own : List ℕ) → Contains owns own → IsCalm rows own

-- the operation with the index i is of the direct class e, and brings no other class
pub record IsPlain (h : List Op) (us : List ℕ) (s : DirectState) (i e : ℕ) : Type 0 where
  pub class : class_at s i ≡ Some e
  pub only : (k : ℕ) → Owns h us s (place us i) k → k ≡ e

-- the operation with the index i is of the joint class with the number e
pub record IsJoined (h : List Op) (us : List ℕ) (s : DirectState) (js : JointsState)
    (i e : ℕ) : Type 0 where
  pub index : ℕ
  pub number : e ≡ length s.rows + index
  pub own : List ℕ
  pub at : IsJointAt js own (hiding_site_at h (place us i)) index
  pub owns : (k : ℕ) → Contains own k ↔ Owns h us s (place us i) k

-- the operation with the index i is of the class e
abbrev pub IsSlot : List Op → List ℕ → DirectState → JointsState → ℕ → ℕ → Type 0
IsSlot h us s js i e = IsPlain h us s i e ⊎ IsJoined h us s js i e

-- the first n operations are of the classes es
pub record AreSlots (h : List Op) (us : List ℕ) (s : DirectState) (js : JointsState)
    (es : List ℕ) (n : ℕ) : Type 0 where
  pub count : length es ≡ n
  pub each : (i : ℕ) → i < n → IsSlot h us s js i (slice_index_or es i 0)
  pub calm : AreCalm s.rows js.owns

-- one of the first n numbers of us is a, and es has e at its index
pub record HasSlot (us es : List ℕ) (n e a : ℕ) : Type 0 where
  pub index : ℕ
  pub bound : index < n
  pub slot : slice_index_or es index 0 ≡ e
  pub place : place us index ≡ a

-- the k sets ms have those of the first n numbers of us that es puts there
pub record AreMembers (us es : List ℕ) (n k : ℕ) (ms : List (List ℕ)) : Type 0 where
  pub count : length ms ≡ k
  pub each : (e a : ℕ) → Contains (slice_index_or ms e []) a ↔ HasSlot us es n e a
