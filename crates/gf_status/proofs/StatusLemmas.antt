-- The statuses of the objects of a history.
use Rattle.std.proofs.Common.{◌≡◌, ℕ, ◌<◌, get_or, List, [], ◌∷◌, ◌++◌, length}
use Rattle.std.proofs.Common.{sym, ap, subst, ◌∙◌, inl, inr}
use Rattle.std.specs.Prelude.{Contains}
use Rattle.std.specs.List.Sorted.{IsStrictlySortedBy}
use Rattle.std.proofs.lemmas.List.{map-append}
use Rattle.std.proofs.lemmas.List.Elements.{Contains-get_or, Contains-push_cases}
use Rattle.gf_ops.specs.declared.op.Op.{Op}
use Rattle.gf_ops.specs.declared.op.OpId.{OpId}
use Rattle.gf_ops.specs.declared.op.ObjectId.{ObjectId}
use Rattle.gf_ops.specs.OperationOrder.{id_cmp}
use Rattle.gf_groups.specs.declared.group.Group.{Group}
use Rattle.gf_groups.specs.Versions.{IsMade, IsVersionGroup}
use Rattle.gf_names.specs.Objects.{AreObjects}
use Rattle.gf_visible.specs.ShownVersions.{AreVisibleOn}
use Rattle.gf_status.specs.declared.objects.ObjectStatus.{ObjectStatus}
use Rattle.gf_status.specs.ObjectStatuses.{AreStatuses, IsObjectStatus, told_ids}

-- ---- how many are visible

-- visible versions are versions
pub visible_versions : (h : List Op) (o : ObjectId) (groups : List Group) → AreVisibleOn h o groups
    → (g : Group) → Contains groups g → IsVersionGroup h g
visible_versions h o groups all g c = let w = (all.exactly g).0 c in
    subst (IsVersionGroup h) w.1.group w.1.visible.version.version

-- ---- the statuses

-- the statuses so far tell of the objects under these ids
pub record AreStatusesOf (h : List Op) (ids : List OpId) (ss : List ObjectStatus) : Type 0 where
  pub named : told_ids ss ≡ ids
  pub each : (s : ObjectStatus) → Contains ss s → IsObjectStatus h s

pub of_more : (h : List Op) (ids : List OpId) (ss : List ObjectStatus) → AreStatusesOf h ids ss
    → (s : ObjectStatus) (i : OpId) → s.object.0 ≡ i → IsObjectStatus h s
    → AreStatusesOf h (ids ++ i ∷ []) (ss ++ s ∷ [])
of_more h ids ss are s i e is = record {
  named = map-append (λ (z : ObjectStatus). z.object.0) ss (s ∷ [])
      ∙ (ap (λ is. is ++ s.object.0 ∷ []) are.named ∙ ap (λ j. ids ++ j ∷ []) e);
  each = λ z c. elim (Contains-push_cases ss s z c) [
    | inl k ↦ are.each z k
    | inr same ↦ subst (IsObjectStatus h) same is
  ];
}

pub all_of : (h : List Op) (ids : List OpId) (ss : List ObjectStatus) → AreObjects h ids
    → AreStatusesOf h ids ss → AreStatuses h ss
all_of h ids ss objects are = record {
  each = are.each;
  all = λ o m. subst (λ is. Contains is o.0) (sym are.named) ((objects.exactly o).1 m);
  rising = subst (IsStrictlySortedBy id_cmp) (sym are.named) objects.rising;
}
