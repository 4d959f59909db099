-- The versions of an object from the sets of classes of its operations, and how many they are.
use Rattle.std.proofs.Common.{◌≡◌, ℕ, ◌+◌, ◌≤◌, ◌<◌, List, map, length, sym, subst, ap, ◌∙◌}
use Rattle.std.specs.Prelude.{cond, nat_le}
use Rattle.std.proofs.lemmas.Bool.{cond-true, cond-false, le-leb, lt-leb}
use Rattle.std.proofs.lemmas.List.{length-map}
use Rattle.gf_ops.specs.declared.op.Op.{Op}
use Rattle.gf_ops.specs.declared.op.ObjectId.{ObjectId}
use Rattle.gf_ops.specs.ValidHistory.{IsValid}
use Rattle.gf_classes.specs.ConflictClasses.{AreClassesOf}
use Rattle.gf_groups.specs.Growing.{conflict_at}
use Rattle.gf_groups.specs.GroupedPositions.{group_at}
use Rattle.gf_table.specs.Positions.{positions_on}
use Rattle.gf_groups.specs.Versions.{IsMade}
use Rattle.gf_groups.proofs.GroupLemmas.{groups_exactly, groups_once}
use Rattle.gf_groups.proofs.OnPositionLemmas.{all_positions}
use Rattle.gf_groups.proofs.PositionLemmas.{positions_on-rising}
use Rattle.gf_maximal.specs.Classes.{ClassesState, spread, used}
use Rattle.gf_maximal.specs.LargestSets.{AreLargestSets}
use Rattle.gf_maximal.specs.Rows.{conflict}
use Rattle.gf_maximal.proofs.ClassLemmas.{largest_spread, used_rises}
use Rattle.gf_maximal.proofs.ListingLemmas.{largest_sets}
use Rattle.gf_listing.specs.Counting.{IsCount, capped}
use Rattle.gf_listing.specs.Listed.{AreAllOf}
use Rattle.gf_listing.specs.declared.versions.TheConstants.{MOST_COUNTED}

-- ---- capped numbers

pub capped_few : (n : ℕ) → n ≤ 1000 → capped n ≡ n
capped_few n l = cond-true (nat_le n 1000) n 1001 (le-leb n 1000 l)

pub capped_many : (n : ℕ) → 1000 < n → capped n ≡ 1001
capped_many n l = cond-false (nat_le n 1000) n 1001 (lt-leb n 1000 l)

-- ---- the versions

module _ (h : List Op) (o : ObjectId) (s : ClassesState)
    (classes : AreClassesOf h (positions_on h o) s) where
  -- the largest sets of positions, from those of classes
  pub sets_spread : (gs sets : List (List ℕ)) → AreLargestSets (conflict s.rows) (used s) gs
      → sets ≡ map (spread s) gs → AreLargestSets (conflict_at h) (positions_on h o) sets
  sets_spread gs sets table e =
      subst (AreLargestSets (conflict_at h) (positions_on h o)) (sym e)
      (largest_spread (conflict_at h) (positions_on h o) s classes.classes gs table)

  versions_spread : IsValid h → IsMade h o → (gs : List (List ℕ))
      → AreLargestSets (conflict s.rows) (used s) gs
      → AreAllOf h o (map (group_at h o) (map (spread s) gs))
  versions_spread valid made gs table =
      let us = positions_on h o in
      let rises = positions_on-rising h o in
      let sets = largest_spread (conflict_at h) us s classes.classes gs table in
      record {
        exactly = groups_exactly h valid o us (all_positions h o) rises (map (spread s) gs)
            sets made;
        once = groups_once h valid o us (all_positions h o) rises (map (spread s) gs) sets;
      }

  -- THE COUNT: as many sets of classes, so many versions
  pub count_told : IsValid h → IsMade h o → (n : ℕ)
      → ((gs : List (List ℕ)) → AreLargestSets (conflict s.rows) (used s) gs
      → n ≡ cond (nat_le (length gs) MOST_COUNTED) (length gs) (MOST_COUNTED + 1))
      → IsCount h o n
  count_told valid made n counted =
      let rows = classes.classes.rows in
      let all = largest_sets (conflict s.rows)
      (record { symmetric = rows.symmetric; alone = rows.alone }) (used s) (used_rises s) in
      let gs = all.0 in
      let sets = map (spread s) gs in
      record {
        groups = map (group_at h o) sets;
        all = versions_spread valid made gs all.1;
        is = counted gs all.1
            ∙ ap capped (sym (length-map sets (group_at h o) ∙ length-map gs (spread s)));
      }
