-- The groups of any table of an object's positions are its versions, each once.
use Rattle.std.proofs.Common.{◌≡◌, ◌≢◌, ℕ, true, false, List, map, get_or, refl, sym, ap, subst}
use Rattle.std.proofs.Common.{◌∙◌, inl, inr, arith}
use Rattle.std.specs.Prelude.{◌↔◌, AllPairs, Contains, slice_get}
use Rattle.std.specs.Cmp.{IsTotalOrder}
use Rattle.std.specs.FinMap.{slice_cmp-IsAntisymmetric}
use Rattle.std.specs.List.Sorted.{IsPermutation, IsSorted}
use Rattle.std.specs.Ordering.{nat_cmp}
use Rattle.std.proofs.lemmas.Bool.{cases_Bool}
use Rattle.std.proofs.lemmas.Cmp.{nat_cmp_total, on_total, lists_total}
use Rattle.std.proofs.lemmas.List.Elements.{Contains-get_or}
use Rattle.std.proofs.lemmas.List.Sorted.{Contains-permutation, IsPermutation-sym}
use Rattle.gf_ops.specs.declared.op.Op.{Op}
use Rattle.gf_ops.specs.declared.op.ObjectId.{ObjectId}
use Rattle.gf_ops.specs.ValidHistory.{IsValid}
use Rattle.gf_ops.specs.Version.{IsVersion}
use Rattle.gf_base.proofs.ListLemmas.{Contains-map, Contains-map_from}
use Rattle.gf_groups.specs.declared.group.Group.{Group}
use Rattle.gf_groups.specs.Versions.{IsMade, IsVersionGroup, AreVersions, group_cmp}
use Rattle.gf_groups.specs.Growing.{conflict_at}
use Rattle.gf_groups.specs.GroupedPositions.{rising_ids, group_at}
use Rattle.gf_table.specs.Positions.{is_on}
use Rattle.gf_maximal.specs.LargestSets.{IsRising, AreLargestSets}
use Rattle.gf_ops.proofs.IdLemmas.{id_cmp_total, id_cmp_exact}
use Rattle.gf_groups.proofs.IdPositionLemmas.{Contains-rising_ids, same_position}
use Rattle.gf_groups.proofs.OnPositionLemmas.{on_op}
use Rattle.gf_base.proofs.RisingLemmas.{one_rising}
use Rattle.gf_groups.proofs.SortedLemmas.{ties, equal_left, rising_sorted}
use Rattle.gf_base.proofs.PairLemmas.{AllPairs-map}
use Rattle.gf_groups.proofs.VersionLemmas.{version_of_largest, largest_of_version, same_ids}
use Rattle.gf_groups.proofs.VersionLemmas.{positions_in, positions_in-rising}

pub group_cmp_total : IsTotalOrder group_cmp
group_cmp_total = on_total (λ (g : Group). g.ops) (lists_total id_cmp_total)

-- us are the positions of all operations of h on the object o
module _ (h : List Op) (valid : IsValid h) (o : ObjectId) (us : List ℕ) (all : (i : ℕ)
    → Contains us i ↔ (is_on o (slice_get h i) ≡ true)) (form : IsRising us) (gs : List (List ℕ))
    (table : AreLargestSets (conflict_at h) us gs) where
  abbrev groups : List Group
  groups = map (group_at h o) gs

  -- two groups of positions with the same ids have the same positions
  same_positions : (g k : List ℕ) → ((i : ℕ) → Contains g i → Contains us i)
      → rising_ids h g ≡ rising_ids h k → (i : ℕ) → Contains g i → Contains k i
  same_positions g k within e i c =
      let a = on_op o (slice_get h i) ((all i).0 (within i c)) in
      let here = (Contains-rising_ids h g a.0.id).1
      (record { position = i; op = a.0; contained = c; at = a.1; id = refl }) in
      let t = (Contains-rising_ids h k a.0.id).0 (subst (λ ids. Contains ids a.0.id) e here) in
      subst (Contains k) (same_position h valid t.position i t.op a.0 t.at a.1 t.id) t.contained

  pub same_group_at : (g k : List ℕ) → Contains gs g → Contains gs k
      → group_at h o g ≡ group_at h o k → g ≡ k
  same_group_at g k x y e =
      let m = (table.each g).0 x in let n = (table.each k).0 y in
      let ids = ap (λ (z : Group). z.ops) e in
      one_rising nat_cmp nat_cmp_total g k m.0 n.0
      (λ i. (same_positions g k m.1.within ids i, same_positions k g n.1.within (sym ids) i))

  pub groups_once : AllPairs (λ g k. g ≢ k) (map (group_at h o) gs)
  groups_once = AllPairs-map (group_at h o) gs same_group_at table.once

  group_on : (g : Group) → Contains (map (group_at h o) gs) g → g.object ≡ o
  group_on g c = ap (λ (k : Group). k.object) ((Contains-map_from (group_at h o) gs g c).2)

  pub groups_exactly : IsMade h o → (g : Group) → Contains (map (group_at h o) gs) g
      ↔ ((g.object ≡ o) × IsVersionGroup h g)
  groups_exactly made g = (
    λ c.
        let w = Contains-map_from (group_at h o) gs g c in
        let m = (table.each w.0).0 w.1 in (
          ap (λ (k : Group). k.object) w.2,
          subst (IsVersionGroup h) (sym w.2) (version_of_largest h valid o us all made w.0 m.1),
        ),
    λ t.
        let v : IsVersion h o g.ops = subst (λ x. IsVersion h x g.ops) t.0 t.1 in
        let positions = positions_in h valid o us all g.ops in
        let in_table = (table.each positions).1 (
          positions_in-rising h valid o us all form g.ops,
          largest_of_version h valid o us all g.ops v,
        ) in
        let ids = same_ids h valid o us all g.ops v in
        let e : group_at h o positions ≡ g = λ i. record { object = sym t.0 i; ops = ids i } in
        subst (Contains groups) e (Contains-map (group_at h o) gs positions in_table),
  )

  no_ties : AllPairs (λ g k. ties group_cmp group_cmp_total g k ≡ false) groups
  no_ties i j d below inside =
      let a = get_or groups i d in let b = get_or groups j d in
      let x = group_on a (Contains-get_or groups i d (omega arith)) in
      let y = group_on b (Contains-get_or groups j d inside) in
      elim (cases_Bool (ties group_cmp group_cmp_total a b)) [
        | inl t ↦
            let ops = slice_cmp-IsAntisymmetric id_cmp_exact a.ops b.ops
            (equal_left (group_cmp a b) t) in
            let object = x ∙ sym y in
            let e : a ≡ b = λ n. record { object = object n; ops = ops n } in
            absurd (groups_once i j d below inside e)
        | inr t ↦ t
      ]

  -- sorted, they are listed
  pub versions_sorted : IsMade h o → (listed : List Group)
      → IsPermutation (map (group_at h o) gs) listed → IsSorted group_cmp listed
      → AreVersions h o listed
  versions_sorted made listed moved sorted = record {
    exactly = λ g. (
      λ c. (groups_exactly made g).0
          (Contains-permutation listed groups g (IsPermutation-sym groups listed moved) c),
      λ t. Contains-permutation groups listed g moved ((groups_exactly made g).1 t),
    );
    rising = rising_sorted group_cmp group_cmp_total groups listed no_ties moved sorted;
  }
