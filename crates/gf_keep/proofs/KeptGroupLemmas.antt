-- The visible versions that hold all of some ids, sorted, are those that are kept.
use Rattle.std.proofs.Common.{◌≡◌, ◌≢◌, true, false, List, [], ◌∷◌, get_or, length, refl, sym}
use Rattle.std.proofs.Common.{subst, ap, ◌∙◌, arith, inl, inr}
use Rattle.std.specs.Prelude.{◌↔◌, ◌≤◌, ℕ, AllPairs, Contains, Option, Some, IfSome, filter}
use Rattle.std.specs.FinMap.{slice_cmp-IsAntisymmetric}
use Rattle.std.specs.List.{list_any}
use Rattle.std.specs.Prelude.{◌==◌}
use Rattle.std.proofs.lemmas.Bool.Decides.{Decides-eqb}
use Rattle.std.specs.List.Sorted.{IsPermutation, IsSorted}
use Rattle.std.proofs.lemmas.Bool.{cases_Bool}
use Rattle.std.proofs.lemmas.List.Elements.{Contains-get_or}
use Rattle.std.proofs.lemmas.List.Kept.{AllPairs-filter}
use Rattle.std.proofs.lemmas.List.Sorted.{Contains-permutation, IsPermutation-sym}
use Rattle.gf_base.proofs.FilterLemmas.{Contains-filter, list_all_from, list_all_true}
use Rattle.gf_base.proofs.FilterLemmas.{list_any_from, list_any_true}
use Rattle.gf_ops.specs.declared.op.Op.{Op}
use Rattle.gf_ops.specs.declared.op.OpId.{OpId}
use Rattle.gf_ops.specs.declared.op.ObjectId.{ObjectId}
use Rattle.gf_groups.specs.declared.group.Group.{Group}
use Rattle.gf_groups.specs.Versions.{IsMade, group_cmp}
use Rattle.gf_groups.specs.VersionList.{id_eq}
use Rattle.gf_groups.proofs.ConflictTestLemmas.{id_decided}
use Rattle.gf_groups.proofs.GroupLemmas.{group_cmp_total}
use Rattle.gf_ops.proofs.IdLemmas.{id_cmp_exact}
use Rattle.gf_groups.proofs.SortedLemmas.{ties, equal_left, rising_sorted}
use Rattle.gf_versions.specs.declared.ranking.TheConstants.{MOST_VERSIONS}
use Rattle.gf_visible.specs.ShownVersions.{AreVisibleOn, HasMoreOn}
use Rattle.gf_keep.specs.declared.keep.Keep.{Keep}
use Rattle.gf_keep.specs.Keeping.{AreKept, IsKept}
use Rattle.gf_keep.specs.KeepFaults.{HasNoneKept}
use Rattle.gf_keep.specs.KeepSteps.{AreOfObject, has_all}
use Rattle.gf_base.proofs.CountLemmas.{no_longer}
use Rattle.gf_base.proofs.ListLemmas.{not_Contains-nil}

id_in : (ids : List OpId) (i : OpId) → (list_any (id_eq i) ids ≡ true) ↔ Contains ids i
id_in ids i = (
  λ t. let w = list_any_true (id_eq i) ids t in
      subst (Contains ids) (sym ((id_decided i w.0).0 w.2)) w.1,
  λ c. list_any_from (id_eq i) ids i c ((id_decided i i).1 refl),
)

all_in : (ids : List OpId) (g : Group) → (has_all ids g ≡ true) ↔ ((i : OpId) → Contains ids i
    → Contains g.ops i)
all_in ids g = (
  λ t i c. (id_in g.ops i).0 (list_all_true (λ (i : OpId). list_any (id_eq i) g.ops) ids t i c),
  λ f. list_all_from (λ (i : OpId). list_any (id_eq i) g.ops) ids
      (λ i c. (id_in g.ops i).1 (f i c)),
)

module _ (h : List Op) (k : Keep) (groups : List Group) (all : AreVisibleOn h k.object groups) where
  abbrev kept : List Group
  kept = filter (has_all k.with) groups

  kept_told : (g : Group) → Contains kept g ↔ IsKept h k g
  kept_told g = (
    λ c.
        let p = (Contains-filter (has_all k.with) groups g).0 c in
        let v = (all.exactly g).0 p.0 in
        record { object = v.0; visible = v.1; has = (all_in k.with g).0 p.1 },
    λ t. (Contains-filter (has_all k.with) groups g).1 (
      (all.exactly g).1 (t.object, t.visible),
      (all_in k.with g).1 t.has,
    ),
  )

  no_ties : AllPairs (λ (g f : Group). ties group_cmp group_cmp_total g f ≡ false) kept
  no_ties i j d below inside =
      let a = get_or kept i d in
      let b = get_or kept j d in
      let x = ((kept_told a).0 (Contains-get_or kept i d (omega arith))).object in
      let y = ((kept_told b).0 (Contains-get_or kept j d inside)).object in
      elim (cases_Bool (ties group_cmp group_cmp_total a b)) [
        | inl t ↦
            let ops = slice_cmp-IsAntisymmetric id_cmp_exact a.ops b.ops
            (equal_left (group_cmp a b) t) in
            let object = x ∙ sym y in
            let e : a ≡ b = λ n. record { object = object n; ops = ops n } in
            absurd (AllPairs-filter (λ (g f : Group). g ≢ f) (has_all k.with) groups all.once i j d
            below inside e)
        | inr t ↦ t
      ]

  pub kept_sorted : (given sorted : List Group) → given ≡ kept → IsPermutation given sorted
      → IsSorted group_cmp sorted → AreKept h k sorted
  kept_sorted given sorted e moved s =
      let m = subst (λ (gs : List Group). IsPermutation gs sorted) e moved in
      record {
        exactly = λ g. (
          λ c. (kept_told g).0 (Contains-permutation sorted kept g (IsPermutation-sym kept sorted m)
              c),
          λ t. Contains-permutation kept sorted g m ((kept_told g).1 t),
        );
        rising = rising_sorted group_cmp group_cmp_total kept sorted no_ties m s;
      }

pub none_kept : (h : List Op) (k : Keep) (groups : List Group) → IsMade h k.object
    → ¬ (HasMoreOn h k.object MOST_VERSIONS) → AreKept h k groups → groups ≡ [] → HasNoneKept h k
none_kept h k groups made few kept e = record {
  made = made;
  few = few;
  none = λ g t. not_Contains-nil g (subst (λ (gs : List Group). Contains gs g) e
      ((kept.exactly g).1 t));
}

pub of_object : (h : List Op) (k : Keep) (groups : List Group) → AreKept h k groups
    → AreOfObject k.object groups
of_object h k groups kept g c = ((kept.exactly g).0 c).object

pub kept_at : (h : List Op) (k : Keep) (seen : List Op) → seen ≡ h
    → {V : Type 0} (items : V → List Group) (r : Option V) (v : V) → r ≡ Some v
    → IfSome r (λ (v : V). AreVisibleOn seen k.object (items v)) →
    (ids : List OpId) → ids ≡ k.with → (given sorted : List Group)
    → given ≡ filter (has_all ids) (items v) → IsPermutation given sorted
    → IsSorted group_cmp sorted → AreKept h k sorted
kept_at h k seen same items r v is all ids with given sorted e moved s =
    let visible = subst (λ (z : Option _). IfSome z (λ v. AreVisibleOn seen k.object (items v))) is
    all in
    let there = subst (λ (z : List Op). AreVisibleOn z k.object (items v)) same visible in
    kept_sorted h k (items v) there given sorted
    (e ∙ ap (λ (is : List OpId). filter (has_all is) (items v)) with) moved s

pub none_found : (h : List Op) (k : Keep) {V : Type 0} (items : V → List Group) (r : Option V)
    (v : V) → r ≡ Some v → IsMade h k.object
    → IfSome r (λ (v : V). ¬ (HasMoreOn h k.object MOST_VERSIONS))
    → IfSome r (λ (v : V). AreKept h k (items v)) → (length (items v) == 0) ≡ true
    → HasNoneKept h k
none_found h k items r v is made few all empty =
    none_kept h k (items v) made
    (subst (λ (z : Option _). IfSome z (λ v. ¬ (HasMoreOn h k.object MOST_VERSIONS))) is few) (subst (λ (z : Option _). IfSome z (λ v. AreKept h k (items v))) is
    all) (nothing (items v) ((Decides-eqb (length (items v)) 0).0 empty))
  where
    nothing : (gs : List Group) → length gs ≡ 0 → gs ≡ []
    nothing [] e = refl
    nothing (x ∷ xs) e = absurd (omega arith)

-- at most m visible versions are not more than m
pub few_at : (h : List Op) (o : ObjectId) (m : ℕ) {V : Type 0} (items : V → List Group)
    (r : Option V) (v : V) → r ≡ Some v → IfSome r (λ (v : V). AreVisibleOn h o (items v))
    → IfSome r (λ (v : V). length (items v) ≤ m) → ¬ (HasMoreOn h o m)
few_at h o m items r v is all few more =
    let these = subst (λ (z : Option _). IfSome z (λ v. AreVisibleOn h o (items v))) is all in
    let short = subst (λ (z : Option _). IfSome z (λ v. length (items v) ≤ m)) is few in
    let long = no_longer more.groups (items v) more.all.once
    (λ g there. (these.exactly g).1 ((more.all.exactly g).0 there)) in
    let many = more.many in
    absurd (omega (arith, long, short, many))
