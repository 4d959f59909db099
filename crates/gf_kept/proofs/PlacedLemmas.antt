-- The visible versions of an object at their places, and their groups.
use Rattle.std.proofs.Common.{◌≡◌, ◌≢◌, ℕ, ◌<◌, List, [], ◌∷◌, length, map, get_or, refl, sym}
use Rattle.std.proofs.Common.{subst, ap, ◌∙◌, arith}
use Rattle.std.specs.Prelude.{AllPairs, Contains}
use Rattle.std.proofs.lemmas.List.{get_or-map, length-map}
use Rattle.std.proofs.lemmas.List.Elements.{Contains-get_or}
use Rattle.gf_base.proofs.ListLemmas.{Contains-map, Contains-map_from}
use Rattle.gf_shape.specs.declared.any_shape.AnyShape.{AnyShape}
use Rattle.gf_ops.specs.declared.op.Op.{Op}
use Rattle.gf_ops.specs.declared.op.ObjectId.{ObjectId}
use Rattle.gf_ops.specs.ValidHistory.{IsValid}
use Rattle.gf_groups.specs.declared.group.Group.{Group}
use Rattle.gf_groups.specs.Versions.{IsVersionGroup}
use Rattle.gf_versions.specs.declared.placed.Placed.{Placed}
use Rattle.gf_versions.specs.Above.{IsAbove}
use Rattle.gf_versions.specs.Ranking.{AreRankedOf, IsPlaced, group_of, placed_version}
use Rattle.gf_versions.proofs.KeyLemmas.{above_one_way}
use Rattle.gf_versions.proofs.VersionLemmas.{one_of_group}
use Rattle.gf_visible.specs.ShownVersions.{AreVisibleOn, HasMoreOn, IsVisibleGroup}
use Rattle.gf_kept.specs.Gathered.{item_group}
use Rattle.gf_kept.specs.Keeping.{ArePlacedOn}
use Rattle.gf_kept.specs.SameOn.{HaveSameOn}
use Rattle.gf_kept.proofs.SameOnLemmas.{placed_on, same_back}

-- the group of a visible version at its place
pub placed_group : (h : List Op) (i : Placed AnyShape) → IsPlaced h i
    → IsVisibleGroup h (item_group i)
placed_group h i x = record {
  version = x.version;
  visible = x.visible;
  group = ap item_group (sym x.placed);
}

-- two visible versions with one group are one
pub one_item : (h : List Op) → IsValid h → (i j : Placed AnyShape) → IsPlaced h i → IsPlaced h j
    → item_group i ≡ item_group j → i ≡ j
one_item h valid i j x y e =
    let same : group_of x.version ≡ group_of y.version = ap item_group (sym x.placed)
    ∙ (e ∙ ap item_group y.placed) in
    let one = one_of_group h valid x.version y.version x.visible.version y.visible.version
    (ap (λ (g : Group). g.object) same) (ap (λ (g : Group). g.ops) same) in
    x.placed ∙ (ap placed_version one ∙ sym y.placed)

-- ranked, the visible groups of an object are its visible versions
pub placed_from_ranked : (h : List Op) (o : ObjectId) (groups : List Group)
    (items : List (Placed AnyShape)) → AreVisibleOn h o groups → AreRankedOf h groups items
    → ArePlacedOn h o items
placed_from_ranked h o groups items all ranked = record {
  exactly = λ i. (
    λ p.
        let x = p.1 in
        let on : x.version.key.object ≡ o = ap (λ (j : Placed AnyShape). j.key.object)
        (sym x.placed) ∙ p.0 in
        (ranked.exactly i).0 (record {
          version = x.version;
          visible = x.visible;
          grouped = (all.exactly (group_of x.version)).1 (
            on,
            (record {
              version = x.version;
              visible = x.visible;
              group = refl;
            }),
          );
          placed = x.placed;
        }),
    λ c.
        let x = (ranked.exactly i).1 c in (
          ap (λ (j : Placed AnyShape). j.key.object) x.placed
              ∙ ((all.exactly (group_of x.version)).0 x.grouped).0,
          record { version = x.version; visible = x.visible; placed = x.placed },
        ),
  );
  falling = ranked.falling;
}

-- visible groups are versions
pub each_version : (h : List Op) (o : ObjectId) (groups : List Group) → AreVisibleOn h o groups
    → (g : Group) → Contains groups g → IsVersionGroup h g
each_version h o groups all g c =
    let w = ((all.exactly g).0 c).1 in
    subst (IsVersionGroup h) w.group w.visible.version.version

-- their groups stand once each
groups_once : (h : List Op) → IsValid h → (o : ObjectId) (items : List (Placed AnyShape))
    → ArePlacedOn h o items → AllPairs (λ g k. g ≢ k) (map item_group items)
groups_once h valid o items all i j d before inside e = apart items refl
  where
    apart : (rest : List (Placed AnyShape)) → items ≡ rest → ⊥
    apart [] same = let none = ap length same in let count = length-map items item_group in
        absurd (omega arith)
    apart (x ∷ rest) same =
        let count = length-map items item_group in
        let here : j < length items = omega arith in
        let there : i < length items = omega arith in
        let first = get_or items i x in
        let second = get_or items j x in
        let groups : item_group first ≡ item_group second =
        sym (get_or-map item_group items i x d there)
        ∙ (e ∙ get_or-map item_group items j x d here) in
        let one = one_item h valid first second
        ((all.exactly first).1 (Contains-get_or items i x there)).1
        ((all.exactly second).1 (Contains-get_or items j x here)).1 groups in
        let above : IsAbove first.key first.key = subst
        (λ (z : Placed AnyShape). IsAbove first.key z.key) (sym one)
        (all.falling i j x before here) in
        above_one_way first.key first.key above above

-- the groups of the visible versions of an object
pub groups_on : (h : List Op) → IsValid h → (o : ObjectId) (items : List (Placed AnyShape))
    → ArePlacedOn h o items → AreVisibleOn h o (map item_group items)
groups_on h valid o items all = record {
  exactly = λ g. (
    λ c.
        let from = Contains-map_from item_group items g c in
        let x = (all.exactly from.0).1 from.1 in (
          ap (λ (k : Group). k.object) from.2 ∙ x.0,
          subst (IsVisibleGroup h) (sym from.2) (placed_group h from.0 x.1),
        ),
    λ w.
        let x = w.1 in
        let i = placed_version x.version in
        let there = (all.exactly i).0 (
          ap (λ (k : Group). k.object) x.group ∙ w.0,
          record { version = x.version; visible = x.visible; placed = refl },
        ) in
        subst (Contains (map item_group items)) x.group (Contains-map item_group items i there),
  );
  once = groups_once h valid o items all;
}

-- more of them than m
pub more_on : (h : List Op) → IsValid h → (o : ObjectId) (items : List (Placed AnyShape))
    → ArePlacedOn h o items → (m : ℕ) → m < length items → HasMoreOn h o m
more_on h valid o items all m many = record {
  groups = map item_group items;
  all = groups_on h valid o items all;
  many = let count = length-map items item_group in omega arith;
}

-- two valid histories with the same operations on an object have the same visible versions of it
pub placed_too : (h k : List Op) → IsValid h → IsValid k → (o : ObjectId) → HaveSameOn o h k
    → (items : List (Placed AnyShape)) → ArePlacedOn h o items → ArePlacedOn k o items
placed_too h k valid too o same items all = record {
  exactly = λ i. (
    λ p. (all.exactly i).0 (
      p.0,
      placed_on k h too valid i (subst (λ q. HaveSameOn q k h) (sym p.0) (same_back o h k same))
          p.1,
    ),
    λ c.
        let p = (all.exactly i).1 c in
        (p.0, placed_on h k valid too i (subst (λ q. HaveSameOn q h k) (sym p.0) same) p.1),
  );
  falling = all.falling;
}
