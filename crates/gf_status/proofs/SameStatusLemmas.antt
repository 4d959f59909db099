-- The status of an object is that of each valid history with the same operations on the object.
use Rattle.std.proofs.Common.{◌≡◌, List, sym, subst}
use Rattle.std.specs.Prelude.{Contains}
use Rattle.gf_ops.specs.declared.op.Op.{Op}
use Rattle.gf_ops.specs.declared.op.OpId.{OpId}
use Rattle.gf_ops.specs.declared.op.ObjectId.{ObjectId}
use Rattle.gf_ops.specs.declared.change.Attr.{Attr}
use Rattle.gf_ops.specs.Attribute.{object_of}
use Rattle.gf_ops.specs.ValidHistory.{IsValid}
use Rattle.gf_groups.specs.declared.group.Group.{Group}
use Rattle.gf_groups.specs.Versions.{IsVersionGroup}
use Rattle.gf_listing.specs.Listed.{AreAllOf}
use Rattle.gf_versions.specs.declared.key.Version.{Version}
use Rattle.gf_visible.specs.ShownVersions.{AreVisibleOn, IsVisibleGroup}
use Rattle.gf_kept.specs.SameOn.{HaveSameOn}
use Rattle.gf_kept.proofs.SameOnLemmas.{conflicts_on, made_too, member_too, same_back, version_on}
use Rattle.gf_kept.proofs.SameOnLemmas.{visible_group_on, visible_on}
use Rattle.gf_status.specs.declared.differing.Difference.{Difference}
use Rattle.gf_status.specs.declared.objects.ObjectStatus.{ObjectStatus}
use Rattle.gf_status.specs.Differing.{AreDifferences, AreGivers, Differs, GivesUnder}
use Rattle.gf_status.specs.Differing.{IsVisibleOn, agrees, differs, none}
use Rattle.gf_status.specs.Hidings.{HidesUnder, ShowsOrHides}
use Rattle.gf_status.specs.ObjectStatuses.{IsObjectStatus}
use Rattle.gf_status.specs.UnseenChanges.{ChangesUnder, HidesBeside}

module _ (h k : List Op) (valid : IsValid h) (too : IsValid k) (o : ObjectId)
    (same : HaveSameOn o h k) where
  back : HaveSameOn o k h
  back = same_back o h k same

  -- the same on what is o
  here : (p : ObjectId) → p ≡ o → HaveSameOn p h k
  here p e = subst (λ q. HaveSameOn q h k) (sym e) same

  -- ---- how many versions there are

  visible_group_too : (g : Group) → g.object ≡ o → IsVisibleGroup h g → IsVisibleGroup k g
  visible_group_too g e = visible_group_on h k valid too g (here g.object e)

  group_too : (g : Group) → g.object ≡ o → IsVersionGroup h g → IsVersionGroup k g
  group_too g e = version_on h k valid too g.object (here g.object e) g.ops

  -- ---- what gives an attribute its value

  visible_too : (v : Version) → IsVisibleOn h o v → IsVisibleOn k o v
  visible_too v x = record {
    visible = visible_on h k valid too v (here v.key.object x.object) x.visible;
    object = x.object;
  }

  differs_too : (t : Attr) → Differs h o t → Differs k o t
  differs_too t x = record {
    first = x.first;
    second = x.second;
    one = visible_too x.first x.one;
    other = visible_too x.second x.other;
    apart = x.apart;
  }

  gives_too : (t : Attr) (i : OpId) → GivesUnder h o t i → GivesUnder k o t i
  gives_too t i y =
      let x = y.gives in
      let g = x.group in
      let on = here g.object x.object in
      let version : IsVersionGroup h g = subst (IsVersionGroup h) x.visible.group
      x.visible.visible.version.version in
      let there = group_too g x.object version in
      record {
        op = y.op;
        id = y.id;
        gives = record {
          group = g;
          object = x.object;
          visible = visible_group_too g x.object x.visible;
          member = member_too h k valid g.object on g.ops version.members y.op x.member;
          sets = x.sets;
          last = λ b m s. x.last b (member_too k h too g.object (same_back g.object h k on) g.ops
              there.members b m) s;
        };
      }

  -- ---- what shows or hides the object

  shows_too : (a : Op) → ShowsOrHides h o a → ShowsOrHides k o a
  shows_too a x = record {
    contained = (same a x.object).0 x.contained;
    object = x.object;
    sets = x.sets;
  }

-- both ways
module _ (h k : List Op) (valid : IsValid h) (too : IsValid k) (o : ObjectId)
    (same : HaveSameOn o h k) where
  back_ : HaveSameOn o k h
  back_ = same_back o h k same

  visible_groups_too : (groups : List Group) → AreVisibleOn h o groups → AreVisibleOn k o groups
  visible_groups_too groups all = record {
    exactly = λ g. (
      λ c. let x = (all.exactly g).0 c in
          (x.0, visible_group_too h k valid too o same g x.0 x.1),
      λ x. (all.exactly g).1 (x.0, visible_group_too k h too valid o back_ g x.0 x.1),
    );
    once = all.once;
  }

  groups_too : (groups : List Group) → AreAllOf h o groups → AreAllOf k o groups
  groups_too groups all = record {
    exactly = λ g. (
      λ c. let x = (all.exactly g).0 c in (x.0, group_too h k valid too o same g x.0 x.1),
      λ x. (all.exactly g).1 (x.0, group_too k h too valid o back_ g x.0 x.1),
    );
    once = all.once;
  }

  givers_too : (t : Attr) (ids : List OpId) → AreGivers h o t ids → AreGivers k o t ids
  givers_too t ids x = record {
    exactly = λ i. (
      λ c. gives_too h k valid too o same t i ((x.exactly i).0 c),
      λ y. (x.exactly i).1 (gives_too k h too valid o back_ t i y),
    );
    rising = x.rising;
  }

  differences_too : {ts : List Attr} {ds : List Difference} → AreDifferences h o ts ds
      → AreDifferences k o ts ds
  differences_too none = none
  differences_too (differs d rest apart givers) = differs d (differences_too rest)
      (differs_too h k valid too o same d.attribute apart)
      (givers_too d.attribute d.givers givers)
  differences_too (agrees t rest alike) = agrees t (differences_too rest)
      (λ x. alike (differs_too k h too valid o back_ t x))

  hides_last_too : (i : OpId) → HidesUnder h o i → HidesUnder k o i
  hides_last_too i y = let x = y.hides in record {
    op = y.op;
    id = y.id;
    hides = record {
      contained = (same y.op x.object).0 x.contained;
      object = x.object;
      hides = x.hides;
      last = λ b s. x.last b (shows_too k h too valid o back_ b s);
    };
  }

  hides_beside_too : (a b : Op) → Contains h a → object_of a ≡ o → HidesBeside h o a b
      → HidesBeside k o a b
  hides_beside_too a b c on x =
      let there = (same a on).0 c in
      let setter = shows_too h k valid too o same b x.setter in
      record {
        setter = setter;
        hides = x.hides;
        beside = λ d. x.beside (conflicts_on k h too o back_ a b there setter.contained on
            setter.object d);
        last = λ e s n.
            let shows = shows_too k h too valid o back_ e s in
            x.last e shows (λ d. n (conflicts_on h k valid o same a e c shows.contained on
            shows.object d));
      }

  changes_too : (i : OpId) → ChangesUnder h o i → ChangesUnder k o i
  changes_too i y = let x = y.changes in record {
    op = y.op;
    id = y.id;
    changes = record {
      contained = (same y.op x.object).0 x.contained;
      object = x.object;
      other = x.other;
      unseen = λ g e w. x.unseen g e (visible_group_too k h too valid o back_ g e w);
      hiding = x.hiding;
      beside = hides_beside_too y.op x.hiding x.contained x.object x.beside;
      concurrent = x.concurrent;
    };
  }

-- the status of an object
pub status_too : (h k : List Op) → IsValid h → IsValid k → (s : ObjectStatus)
    → HaveSameOn s.object h k → IsObjectStatus h s → IsObjectStatus k s
status_too h k valid too s same x = record {
  made = made_too h k valid too o same x.made;
  versions = record {
    groups = x.versions.groups;
    all = groups_too h k valid too o same x.versions.groups x.versions.all;
    is = x.versions.is;
  };
  shown = record {
    groups = x.shown.groups;
    all = visible_groups_too h k valid too o same x.shown.groups x.shown.all;
    is = x.shown.is;
  };
  differences = record {
    few = λ few. differences_too h k valid too o same (x.differences.few few);
    many = x.differences.many;
  };
  hidings = record {
    hidden = λ none. let all = x.hidings.hidden none in record {
      exactly = λ i. (
        λ c. hides_last_too h k valid too o same i ((all.exactly i).0 c),
        λ y. (all.exactly i).1 (hides_last_too k h too valid o other i y),
      );
      rising = all.rising;
    };
    visible = x.hidings.visible;
  };
  changed = record {
    few = λ few. let all = x.changed.few few in record {
      exactly = λ i. (
        λ c. changes_too h k valid too o same i ((all.exactly i).0 c),
        λ y. (all.exactly i).1 (changes_too k h too valid o other i y),
      );
      rising = all.rising;
    };
    many = x.changed.many;
  };
}
  where
    o : ObjectId
    o = s.object

    other : HaveSameOn s.object k h
    other = same_back s.object h k same
