-- Attributes that differ among visible versions.
use Rattle.std.proofs.Common.{◌≡◌, ◌≢◌, true, false, not, List, [], ◌∷◌, refl, sym}
use Rattle.std.proofs.Common.{ap, subst, ◌∙◌, inl, inr}
use Rattle.std.specs.Prelude.{Contains, Option, Some, None}
use Rattle.std.proofs.lemmas.Bool.{cases_Bool}
use Rattle.gf_ops.specs.declared.op.Op.{Op}
use Rattle.gf_ops.specs.declared.op.ObjectId.{ObjectId}
use Rattle.gf_ops.specs.declared.change.Attr.{Attr}
use Rattle.gf_ops.specs.declared.change.Value.{Value}
use Rattle.gf_ops.specs.ConflictTests.{value_eq}
use Rattle.gf_ops.specs.ValidHistory.{IsValid}
use Rattle.gf_base.proofs.ListLemmas.{Contains-cons_cases, Contains-cons_head, Contains-cons_tail}
use Rattle.gf_base.proofs.ListLemmas.{Contains-map, Contains-map_from, not_Contains-nil}
use Rattle.gf_ops.proofs.SameLemmas.{value_eq-same, value_eq-true}
use Rattle.gf_groups.specs.declared.group.Group.{Group}
use Rattle.gf_base.proofs.FilterLemmas.{list_any_false, list_any_true}
use Rattle.gf_versions.specs.declared.key.Version.{Version}
use Rattle.gf_versions.specs.ListedVersions.{AreSettled}
use Rattle.gf_versions.specs.Ranking.{group_of}
use Rattle.gf_versions.specs.Visible.{IsVisible}
use Rattle.gf_versions.proofs.VersionLemmas.{one_of_group}
use Rattle.gf_visible.specs.ShownVersions.{AreVisibleOn, IsVisibleGroup}
use Rattle.gf_status.specs.Differing.{Differs, IsVisibleOn, version_value}
use Rattle.gf_status.specs.Setters.{are_others, some_differ}

-- ---- values

others_told : (r s : Option Value) → are_others r s ≡ true → r ≢ s
others_told None None t = absurd cc
others_told None (Some w) t = λ e. absurd cc
others_told (Some v) None t = λ e. absurd cc
others_told (Some v) (Some w) t = λ e.
    let same : v ≡ w = cc in
    let f : not (value_eq v v) ≡ true = subst (λ z. not (value_eq v z) ≡ true) (sym same) t in
    let k = value_eq-same v in
    absurd cc

same_told : (r s : Option Value) → are_others r s ≡ false → r ≡ s
same_told None None t = refl
same_told None (Some w) t = absurd cc
same_told (Some v) None t = absurd cc
same_told (Some v) (Some w) t = elim (cases_Bool (value_eq v w)) [
  | inl y ↦ ap (λ z. Some z) (value_eq-true v w y)
  | inr n ↦ absurd cc
]

-- ---- the visible versions of an object

module _ (h : List Op) (valid : IsValid h) (o : ObjectId) (groups : List Group)
    (all : AreVisibleOn h o groups) (vs : List Version) (settled : AreSettled h groups vs) where
  -- the versions that were settled are visible
  visible_settled : (v : Version) → Contains vs v → IsVisibleOn h o v
  visible_settled v c =
      let there = subst (λ gs. Contains gs (group_of v)) settled.grouped
      (Contains-map group_of vs v c) in
      let w = (all.exactly (group_of v)).0 there in
      let object : w.1.version.key.object ≡ v.key.object = ap (λ (g : Group). g.object) w.1.group in
      let ops : w.1.version.key.ops ≡ v.key.ops = ap (λ (g : Group). g.ops) w.1.group in
      let same : w.1.version ≡ v = one_of_group h valid w.1.version v w.1.visible.version
      (settled.versions v c) object ops in
      record { visible = subst (IsVisible h) same w.1.visible; object = w.0 }

  -- the versions that were settled are all visible ones
  settled_visible : (v : Version) → IsVisibleOn h o v → Contains vs v
  settled_visible v is =
      let group : IsVisibleGroup h (group_of v) = record {
        version = v;
        visible = is.visible;
        group = refl;
      } in
      let there = (all.exactly (group_of v)).1 (is.object, group) in
      let w = Contains-map_from group_of vs (group_of v)
      (subst (λ gs. Contains gs (group_of v)) (sym settled.grouped) there) in
      let object : v.key.object ≡ w.0.key.object = ap (λ (g : Group). g.object) w.2 in
      let ops : v.key.ops ≡ w.0.key.ops = ap (λ (g : Group). g.ops) w.2 in
      let same : v ≡ w.0 = one_of_group h valid v w.0 is.visible.version (settled.versions w.0 w.1)
      object ops in
      subst (Contains vs) (sym same) w.1

-- the test tells that an attribute differs
pub differs_told : (h : List Op) → IsValid h → (o : ObjectId) (groups : List Group)
    → AreVisibleOn h o groups → (vs : List Version) → AreSettled h groups vs → (t : Attr)
    → some_differ t vs ≡ true → Differs h o t
differs_told h valid o groups all [] settled t e = absurd cc
differs_told h valid o groups all (v ∷ vs) settled t e =
    let w = list_any_true (λ u. are_others (version_value v t) (version_value u t)) vs e in
    record {
      first = v;
      second = w.0;
      one = visible_settled h valid o groups all (v ∷ vs) settled v (Contains-cons_head v vs);
      other = visible_settled h valid o groups all (v ∷ vs) settled w.0
          (Contains-cons_tail v vs w.0 w.1);
      apart = others_told (version_value v t) (version_value w.0 t) w.2;
    }

-- and that it does not
pub agrees_told : (h : List Op) → IsValid h → (o : ObjectId) (groups : List Group)
    → AreVisibleOn h o groups → (vs : List Version) → AreSettled h groups vs → (t : Attr)
    → some_differ t vs ≡ false → ¬ (Differs h o t)
agrees_told h valid o groups all [] settled t e = λ d.
    absurd (not_Contains-nil d.first (settled_visible h valid o groups all [] settled d.first
    d.one))
agrees_told h valid o groups all (v ∷ vs) settled t e = λ d.
    d.apart (sym (as_first d.first (settled_visible h valid o groups all (v ∷ vs) settled d.first
    d.one)) ∙ as_first d.second (settled_visible h valid o groups all (v ∷ vs) settled d.second
    d.other))
  where
    as_first : (u : Version) → Contains (v ∷ vs) u → version_value v t ≡ version_value u t
    as_first u c = elim (Contains-cons_cases v vs u c) [
      | inl same ↦ ap (λ (z : Version). version_value z t) (sym same)
      | inr i ↦ same_told (version_value v t) (version_value u t)
          (list_any_false (λ u. are_others (version_value v t) (version_value u t)) vs e u i)
    ]
