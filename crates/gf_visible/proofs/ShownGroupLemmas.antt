-- The sets of an object's positions that show are the groups of its visible versions.
use Rattle.std.proofs.Common.{◌≡◌, ℕ, true, List, map, sym, ap, subst}
use Rattle.std.specs.Prelude.{◌↔◌, All, Contains, slice_get}
use Rattle.std.proofs.lemmas.List.{length-map}
use Rattle.std.proofs.lemmas.List.Elements.{All-weaker, All-contains_itself}
use Rattle.gf_ops.specs.declared.op.Op.{Op}
use Rattle.gf_ops.specs.declared.op.ObjectId.{ObjectId}
use Rattle.gf_ops.specs.declared.change.Attr.TheVariants as attr
use Rattle.gf_ops.specs.declared.change.Value.TheVariants as value
use Rattle.gf_ops.specs.SettledValue.{IsSettled}
use Rattle.gf_ops.specs.ValidHistory.{IsValid}
use Rattle.gf_base.proofs.ListLemmas.{Contains-map, Contains-map_from}
use Rattle.gf_groups.specs.declared.group.Group.{Group}
use Rattle.gf_groups.specs.GroupedPositions.{rising_ids, group_at}
use Rattle.gf_table.specs.Positions.{is_on, positions_on}
use Rattle.gf_groups.specs.Growing.{conflict_at}
use Rattle.gf_maximal.specs.LargestSets.{IsRising, AreLargestSets}
use Rattle.gf_groups.specs.Versions.{IsMade, IsVersionGroup}
use Rattle.gf_groups.proofs.GroupLemmas.{groups_exactly, same_group_at}
use Rattle.gf_groups.proofs.OnPositionLemmas.{all_positions}
use Rattle.gf_groups.proofs.PositionLemmas.{positions_on-rising}
use Rattle.gf_groups.proofs.LargestGroupLemmas.{conflict_at_test}
use Rattle.gf_maximal.proofs.ListingLemmas.{largest_sets}
use Rattle.gf_base.proofs.PairLemmas.{AllPairs-map}
use Rattle.gf_groups.proofs.VersionLemmas.{version_of_largest}
use Rattle.gf_visible.specs.ShownSets.{IsShownSet, AreShownSets, HasMoreSets}
use Rattle.gf_visible.specs.ShownVersions.{IsVisibleGroup, AreVisibleOn, HasMoreOn}
use Rattle.gf_visible.proofs.SetterLemmas.{shown_once}
use Rattle.gf_visible.proofs.SettledLemmas.{from_settled, to_settled}
use Rattle.gf_versions.proofs.SettlingLemmas.{settled_once}
use Rattle.gf_versions.proofs.VersionLemmas.{some_version}

-- all sets rise
pub sets_rise : (h : List Op) (us : List ℕ) (sets : List (List ℕ)) → AreShownSets h us sets
    → All IsRising sets
sets_rise h us sets all = All-weaker (Contains sets) IsRising (λ g i. ((all.exactly g).0 i).rises)
    sets (All-contains_itself sets)

module _ (h : List Op) (valid : IsValid h) (o : ObjectId) (made : IsMade h o) where
  abbrev us : List ℕ
  us = positions_on h o

  on : (i : ℕ) → Contains us i ↔ (is_on o (slice_get h i) ≡ true)
  on = all_positions h o

  rises : IsRising us
  rises = positions_on-rising h o

  all_sets : (gs : List (List ℕ)) × AreLargestSets (conflict_at h) us gs
  all_sets = largest_sets (conflict_at h) (conflict_at_test h) us rises

  abbrev groups : List (List ℕ)
  groups = all_sets.0

  table : AreLargestSets (conflict_at h) us groups
  table = all_sets.1

  visible : (q : List ℕ) → IsShownSet h us q → IsVisibleGroup h (group_at h o q)
  visible q s =
      let version : IsVersionGroup h (group_at h o q) = version_of_largest h valid o us on made q
      s.largest in
      let v = some_version h valid (group_at h o q) version in
      let shown = to_settled h valid q s.shown in
      let ids : v.0.key.ops ≡ rising_ids h q = ap (λ (g : Group). g.ops) v.2 in
      let own : IsSettled h (rising_ids h q) attr.Shown (value.Shown v.0.shown) = subst
      (λ g. IsSettled h g attr.Shown (value.Shown v.0.shown)) ids v.1.shown in
      let yes = shown_once v.0.shown true (settled_once h valid o (rising_ids h q) version
      attr.Shown (value.Shown v.0.shown) (value.Shown true) own shown) in
      record { version = v.0; visible = record { version = v.1; shown = yes }; group = v.2 }

  shown_set : (q : List ℕ) → Contains groups q → IsVisibleGroup h (group_at h o q)
      → IsShownSet h us q
  shown_set q c w =
      let l = (table.each q).0 c in
      let ids : w.version.key.ops ≡ rising_ids h q = ap (λ (g : Group). g.ops) w.group in
      let own : IsSettled h w.version.key.ops attr.Shown (value.Shown true) = subst
      (λ b. IsSettled h w.version.key.ops attr.Shown (value.Shown b)) w.visible.shown
      w.visible.version.shown in
      let settled = subst (λ g. IsSettled h g attr.Shown (value.Shown true)) ids own in
      record {
        rises = l.0;
        largest = l.1;
        shown = from_settled h valid q settled;
      }

  -- THE VISIBLE VERSIONS of the object
  pub visible_on : (sets : List (List ℕ)) → AreShownSets h (positions_on h o) sets
      → AreVisibleOn h o (map (group_at h o) sets)
  visible_on sets all = record {
    exactly = λ g. (
      λ i.
          let w = Contains-map_from (group_at h o) sets g i in (
            ap (λ (k : Group). k.object) w.2,
            subst (IsVisibleGroup h) (sym w.2) (visible w.0 ((all.exactly w.0).0 w.1)),
          ),
      λ t.
          let version : IsVersionGroup h g = subst (IsVersionGroup h) t.1.group
          t.1.visible.version.version in
          let w = Contains-map_from (group_at h o) groups g
          ((groups_exactly h valid o us on rises groups table made g).1 (t.0, version)) in
          let there = (all.exactly w.0).1 (shown_set w.0 w.1 (subst (IsVisibleGroup h) w.2 t.1)) in
          subst (Contains (map (group_at h o) sets)) (sym w.2)
          (Contains-map (group_at h o) sets w.0 there),
    );
    once = AllPairs-map (group_at h o) sets (λ g k x y. same_group_at h valid o us on rises groups
        table g k (in_table g x) (in_table k y)) all.once;
  }
    where
      in_table : (g : List ℕ) → Contains sets g → Contains groups g
      in_table g x = let s = (all.exactly g).0 x in (table.each g).1 (s.rises, s.largest)

  pub more_on : (m : ℕ) → HasMoreSets h (positions_on h o) m → HasMoreOn h o m
  more_on m w = record {
    groups = map (group_at h o) w.sets;
    all = visible_on w.sets w.all;
    many = rw length-map w.many;
  }
