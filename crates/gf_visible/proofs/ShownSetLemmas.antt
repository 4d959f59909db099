-- A largest compatible set of an object's positions shows where all that hides in it is covered.
use Rattle.std.proofs.Common.{◌≡◌, ℕ, Bool, true, false, List, inl, inr, subst, ap, ◌∙◌}
use Rattle.std.specs.Prelude.{Contains, Option, not, slice_get, unwrap_or}
use Rattle.std.specs.Option.{is_some}
use Rattle.std.proofs.lemmas.Bool.{cases_Bool, and_from, and_parts, not-true, not_from_false}
use Rattle.gf_ops.specs.declared.op.Op.{Op}
use Rattle.gf_ops.specs.declared.op.ObjectId.{ObjectId}
use Rattle.gf_ops.specs.declared.change.Attr.TheVariants as attr
use Rattle.gf_ops.specs.declared.change.Value.TheVariants as value
use Rattle.gf_ops.specs.SettledValue.{IsSettled}
use Rattle.gf_ops.specs.ValidHistory.{IsValid}
use Rattle.gf_groups.specs.declared.group.Group.{Group}
use Rattle.gf_groups.specs.GroupedPositions.{group_at, rising_ids}
use Rattle.gf_table.specs.Positions.{is_on, positions_on}
use Rattle.gf_groups.specs.Growing.{conflict_at}
use Rattle.gf_groups.specs.Versions.{IsMade, IsVersionGroup}
use Rattle.gf_groups.proofs.OnPositionLemmas.{all_positions}
use Rattle.gf_groups.proofs.VersionLemmas.{version_of_largest}
use Rattle.gf_maximal.specs.LargestSets.{IsLargest}
use Rattle.gf_versions.proofs.VersionLemmas.{some_version}
use Rattle.gf_visible.specs.Choices.{AreShowing, IsCovered}
use Rattle.gf_visible.specs.ShownAt.{shows_or_hides_at, shows_at, later_at, hides_at, covers_at}
use Rattle.gf_visible.specs.ShownSets.{ShowsSomewhere, AreShownSets}
use Rattle.gf_visible.proofs.SetterLemmas.{agree_at, setter_shows}
use Rattle.gf_visible.proofs.SettledLemmas.{from_settled, last_from}

never : {G : Type 0} {b : Bool} → b ≡ true → b ≡ false → G
never t f = absurd cc

module _ (h : List Op) (valid : IsValid h) (o : ObjectId) (made : IsMade h o) where
  abbrev us : List ℕ
  us = positions_on h o

  module _ (q : List ℕ) (l : IsLargest (conflict_at h) (Contains (positions_on h o)) (Contains q))
    where
      is_on_o : (i : ℕ) → Contains q i → is_on o (slice_get h i) ≡ true
      is_on_o i x = (all_positions h o i).0 (l.within i x)

      covered_from : ShowsSomewhere h q → IsCovered (hides_at h) (covers_at h) (conflict_at h) q
      covered_from w i x hides =
          let t = and_parts (shows_or_hides_at h i) (not (shows_at h i)) hides in
          let set = setter_shows h w.last w.given in
          elim (cases_Bool (later_at h i w.last)) [
            | inl y ↦ (
              w.last,
              w.within,
              and_from (later_at h i w.last) (shows_at h w.last) y w.given,
            )
            | inr n ↦
                let same = agree_at h valid o i w.last (is_on_o i x) (is_on_o w.last w.within)
                (l.compatible i w.last x w.within) t.0 set n (w.none i x) in
                never (same ∙ w.given) (not-true (shows_at h i) t.1)
          ]

      shows_from : IsCovered (hides_at h) (covers_at h) (conflict_at h) q → ShowsSomewhere h q
      shows_from covered =
          let version : IsVersionGroup h (group_at h o q) = version_of_largest h valid o us
          (all_positions h o) made q l in
          let v = some_version h valid (group_at h o q) version in
          let ids : v.0.key.ops ≡ rising_ids h q = ap (λ (g : Group). g.ops) v.2 in
          let settled : IsSettled h (rising_ids h q) attr.Shown (value.Shown v.0.shown) = subst
          (λ g. IsSettled h g attr.Shown (value.Shown v.0.shown)) ids v.1.shown in
          by_value v.0.shown settled
        where
          by_value : (b : Bool) → IsSettled h (rising_ids h q) attr.Shown (value.Shown b)
              → ShowsSomewhere h q
          by_value true w = from_settled h valid q w
          by_value false w =
              let f = last_from h valid q false w in
              let set : shows_or_hides_at h f.last ≡ true = ap (λ (r : Option Bool). is_some r)
              f.given in
              let hid : shows_at h f.last ≡ false = ap (λ (r : Option Bool). unwrap_or r false)
              f.given in
              let hides : hides_at h f.last ≡ true = and_from (shows_or_hides_at h f.last)
              (not (shows_at h f.last)) set (not_from_false (shows_at h f.last) hid) in
              let over = covered f.last f.within hides in
              never (and_parts (later_at h f.last over.0) (shows_at h over.0) over.2).0
              (f.none over.0 over.1)

  -- THE SETS THAT SHOW, told by what is covered
  pub are_shown : (sets : List (List ℕ))
      → AreShowing (hides_at h) (covers_at h) (conflict_at h) (positions_on h o) sets
      → AreShownSets h (positions_on h o) sets
  are_shown sets t = record {
    exactly = λ g. (
      λ i.
          let w = (t.exactly g).0 i in
          record {
            rises = w.rises;
            largest = w.largest;
            shown = shows_from g w.largest w.covered;
          },
      λ w. (t.exactly g).1 (record {
        rises = w.rises;
        largest = w.largest;
        covered = covered_from g w.largest w.shown;
      }),
    );
    once = t.once;
  }
