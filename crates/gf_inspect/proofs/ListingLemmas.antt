-- The versions of the groups of an object, sorted, are the versions of the object, each above those
-- after it.
use Rattle.std.proofs.Common.{◌≡◌, ◌≢◌, false, List, get_or, sym, subst, ap, ◌∙◌, inl, inr}
use Rattle.std.specs.Prelude.{◌↔◌, AllPairs, Contains}
use Rattle.std.specs.declared.cmp.Ordering.TheVariants.{Less, Greater}
use Rattle.std.specs.Cmp.{IsTotalOrder}
use Rattle.std.specs.List.Sorted.{IsStrictlySortedBy}
use Rattle.std.specs.Ordering.{ordering_reverse}
use Rattle.std.proofs.lemmas.Bool.{cases_Bool}
use Rattle.std.proofs.lemmas.Cmp.{back_total, lists_total, on_total}
use Rattle.std.proofs.lemmas.List.Sorted.{Contains-permutation, IsPermutation-sym}
use Rattle.std.proofs.lemmas.Map.Keys.{Less-from_sorted}
use Rattle.gf_ops.specs.declared.op.Op.{Op}
use Rattle.gf_ops.specs.declared.op.ObjectId.{ObjectId}
use Rattle.gf_ops.specs.ValidHistory.{IsValid}
use Rattle.gf_base.proofs.ListLemmas.{Contains-map, Contains-map_from}
use Rattle.gf_groups.specs.declared.group.Group.{Group}
use Rattle.gf_groups.specs.Versions.{AreVersions, group_cmp}
use Rattle.gf_ops.proofs.IdLemmas.{id_cmp_total}
use Rattle.gf_groups.proofs.SortedLemmas.{equal_left, rising_sorted, ties}
use Rattle.gf_versions.specs.declared.key.Version.{Version}
use Rattle.gf_versions.specs.Above.{IsAbove}
use Rattle.gf_versions.specs.KeyOrder.{key_cmp_total}
use Rattle.gf_versions.specs.Ranking.{group_of}
use Rattle.gf_versions.specs.VersionOf.{IsVersionOf}
use Rattle.gf_versions.proofs.KeyLemmas.{key_cmp_exact}
use Rattle.gf_versions.proofs.RankingLemmas.{groups_apart}
use Rattle.gf_versions.proofs.VersionLemmas.{one_of_group}
use Rattle.gf_inspect.specs.Falling.{falling_cmp, IsSettledFalling}
use Rattle.gf_inspect.specs.ObjectVersions.{AreVersionsOf}

pub falling_total : IsTotalOrder falling_cmp
falling_total = back_total (on_total (λ (v : Version). v.key) key_cmp_total)

group_total : IsTotalOrder group_cmp
group_total = on_total (λ (g : Group). g.ops) (lists_total id_cmp_total)

-- versions of two groups are no tie
no_tie : (v w : Version) → group_of v ≢ group_of w → ties falling_cmp falling_total v w ≡ false
no_tie v w different = elim (cases_Bool (ties falling_cmp falling_total v w)) [
  | inl t ↦
      let key = key_cmp_exact w.key v.key (equal_left (falling_cmp v w) t) in
      absurd (different (λ n. record { object = (sym key n).object; ops = (sym key n).ops }))
  | inr t ↦ t
]

-- rising groups are different
groups_once : (groups : List Group) → IsStrictlySortedBy group_cmp groups
    → AllPairs (λ g k. g ≢ k) groups
groups_once groups rising i j d before inside same =
    let less = Less-from_sorted group_cmp groups i j d rising before inside in
    let g = get_or groups i d in
    let self : group_cmp g g ≡ Less = subst (λ (k : Group). group_cmp g k ≡ Less) (sym same) less in
    let turned = group_total.antisymm g g in
    absurd (let e : Less ≡ Greater = sym self ∙ (turned ∙ ap ordering_reverse self) in cc)

module _ (h : List Op) (o : ObjectId) (groups : List Group) (vs : List Version) (valid : IsValid h)
    (all : AreVersions h o groups) (made : IsSettledFalling h groups vs) where
  abbrev us : List Version
  us = made.versions

  apart : AllPairs (λ v w. ties falling_cmp falling_total v w ≡ false) us
  apart i j d before inside = no_tie (get_or us i d) (get_or us j d)
      (groups_apart groups us made.settled.grouped (groups_once groups all.rising) i j d before
      inside)

  falls : AllPairs (λ v w. IsAbove v.key w.key) vs
  falls i j d before inside =
      let rising = rising_sorted falling_cmp falling_total us vs apart made.moved made.sorted in
      let less = Less-from_sorted falling_cmp vs i j d rising before inside in
      key_cmp_total.antisymm (get_or vs i d).key (get_or vs j d).key ∙ ap ordering_reverse less

  known : (v : Version) → Contains us v ↔ ((v.key.object ≡ o) × IsVersionOf h v)
  known v = (
    λ c. (
      ((all.exactly (group_of v)).0 (subst (λ ks. Contains ks (group_of v)) made.settled.grouped
          (Contains-map group_of us v c))).0,
      made.settled.versions v c,
    ),
    λ is.
        let inside = subst (λ ks. Contains ks (group_of v)) (sym made.settled.grouped)
        ((all.exactly (group_of v)).1 (is.0, is.1.version)) in
        let from = Contains-map_from group_of us (group_of v) inside in
        let one = one_of_group h valid v from.0 is.1 (made.settled.versions from.0 from.1)
        (ap (λ (g : Group). g.object) from.2) (ap (λ (g : Group). g.ops) from.2) in
        subst (Contains us) (sym one) from.1,
  )

  pub versions_of : AreVersionsOf h o vs
  versions_of = record {
    exactly = λ v. (
      λ c. (known v).0 (Contains-permutation vs us v (IsPermutation-sym us vs made.moved) c),
      λ is. Contains-permutation us vs v made.moved ((known v).1 is),
    );
    falling = falls;
  }
