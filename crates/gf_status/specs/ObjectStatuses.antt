-- The status of each object of a history (this project's choice).
use Rattle.std.specs.Prelude.{◌≡◌, ℕ, ◌<◌, ◌≤◌, List, [], Contains, map}
use Rattle.std.specs.List.Sorted.{IsStrictlySortedBy}
use Rattle.gf_ops.specs.declared.op.Op.{Op}
use Rattle.gf_ops.specs.declared.op.OpId.{OpId}
use Rattle.gf_ops.specs.declared.op.ObjectId.{ObjectId}
use Rattle.gf_ops.specs.OperationOrder.{id_cmp}
use Rattle.gf_groups.specs.Versions.{IsMade}
use Rattle.gf_listing.specs.Counting.{IsCount}
use Rattle.gf_versions.specs.declared.ranking.TheConstants.{MOST_VERSIONS}
use Rattle.gf_status.specs.Counting.{IsShownCount}
use Rattle.gf_status.specs.declared.differing.Difference.{Difference}
use Rattle.gf_status.specs.declared.objects.ObjectStatus.{ObjectStatus}
use Rattle.gf_status.specs.Differing.{AreDifferences, attributes}
use Rattle.gf_status.specs.Hidings.{AreLastHidings}
use Rattle.gf_status.specs.UnseenChanges.{AreUnseen}

-- the differences of an object with n visible versions, which are listed where n is at most 1,000
pub record TellsDifferences (h : List Op) (o : ObjectId) (n : ℕ)
    (ds : List Difference) : Type 0 where
  pub few : n ≤ MOST_VERSIONS → AreDifferences h o attributes ds
  pub many : MOST_VERSIONS < n → ds ≡ []

-- the last hidings of an object with n visible versions, which are listed where n is 0
pub record TellsHidings (h : List Op) (o : ObjectId) (n : ℕ) (ids : List OpId) : Type 0 where
  pub hidden : n ≡ 0 → AreLastHidings h o ids
  pub visible : 0 < n → ids ≡ []

-- the operations that changed what is not shown of an object with n visible versions, and knew
-- nothing of what hides it; they are listed where n is at most 1,000
pub record TellsUnseen (h : List Op) (o : ObjectId) (n : ℕ) (ids : List OpId) : Type 0 where
  pub few : n ≤ MOST_VERSIONS → AreUnseen h o ids
  pub many : MOST_VERSIONS < n → ids ≡ []

-- s is the status of an object of h
pub record IsObjectStatus (h : List Op) (s : ObjectStatus) : Type 0 where
  pub made : IsMade h s.object
  pub versions : IsCount h s.object s.versions
  pub shown : IsShownCount h s.object s.shown
  pub differences : TellsDifferences h s.object s.shown s.differences.items
  pub hidings : TellsHidings h s.object s.shown s.hidings
  pub changed : TellsUnseen h s.object s.shown s.changed

-- the ids of the objects of these statuses, in their order
abbrev pub told_ids : List ObjectStatus → List OpId
told_ids ss = map (λ (s : ObjectStatus). s.object.0) ss

-- the statuses are those of all objects of h, rising by id
pub record AreStatuses (h : List Op) (ss : List ObjectStatus) : Type 0 where
  pub each : (s : ObjectStatus) → Contains ss s → IsObjectStatus h s
  pub all : (o : ObjectId) → IsMade h o → Contains (told_ids ss) o.0
  pub rising : IsStrictlySortedBy id_cmp (told_ids ss)
