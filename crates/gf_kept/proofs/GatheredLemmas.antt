-- The visible versions of some objects, gathered one object after another; and of all, ranked.
use Rattle.std.proofs.Common.{◌≡◌, ◌≢◌, ℕ, ◌-◌, ◌<◌, ◌≤◌, List, [], ◌∷◌, ◌++◌, length, map, get_or}
use Rattle.std.proofs.Common.{inl, inr, sym, subst, ap, ◌∙◌, arith}
use Rattle.std.specs.Prelude.{AllPairs, Contains, IfNone, IfOk, IfSome, Option, Some, None}
use Rattle.std.specs.Prelude.{Result, Ok, Err, option_map}
use Rattle.std.specs.List.Sorted.{IsPermutation}
use Rattle.std.proofs.lemmas.List.{get_or-map, length-map, map-append}
use Rattle.std.proofs.lemmas.List.Elements.{Contains-append_cases}
use Rattle.std.proofs.lemmas.List.Sorted.{Contains-permutation, IsPermutation-sym}
use Rattle.std.proofs.lemmas.List.Sorted.{length_permutation}
use Rattle.gf_base.proofs.ListLemmas.{Contains-cons_cases, Contains-map_from, not_Contains-nil}
use Rattle.gf_shape.specs.declared.any_shape.AnyShape.{AnyShape}
use Rattle.gf_ops.specs.declared.op.Op.{Op}
use Rattle.gf_ops.specs.declared.op.OpId.{OpId}
use Rattle.gf_ops.specs.declared.op.ObjectId.{ObjectId}
use Rattle.gf_ops.specs.declared.change.Change.{Change}
use Rattle.gf_ops.specs.declared.change.Change.TheVariants.{Set}
use Rattle.gf_ops.specs.declared.change.Value.{Value}
use Rattle.gf_ops.specs.Attribute.{made_kind}
use Rattle.gf_ops.specs.ValidHistory.{IsValid}
use Rattle.gf_groups.specs.declared.group.Group.{Group}
use Rattle.gf_groups.specs.Versions.{IsMade}
use Rattle.gf_versions.specs.declared.placed.Placed.{Placed}
use Rattle.gf_versions.specs.Above.{IsAbove}
use Rattle.gf_versions.specs.Ranking.{AreRanked, IsPlaced}
use Rattle.gf_versions.proofs.MakerLemmas.{version_kind}
use Rattle.gf_visible.specs.ShownVersions.{HasMoreOn, IsVisibleGroup}
use Rattle.gf_visible.specs.VisibleSoFar.{HasMoreGroups}
use Rattle.gf_visible.proofs.VisibleLemmas.{Fresh, found_of_one, have_more, have_none, more_in_all}
use Rattle.gf_visible.proofs.VisibleLemmas.{own}
use Rattle.gf_kept.specs.Gathered.{AreItemsOf, IsItemListing, item_group}
use Rattle.gf_kept.specs.Keeping.{ArePlacedOn}
use Rattle.gf_kept.proofs.PlacedLemmas.{groups_on, one_item, placed_group}

-- operations that make no object have no items
pub no_items : (h ops : List Op) → ((o : ObjectId) → ¬ (IsMade ops o)) → AreItemsOf h ops []
no_items h ops none = record {
  placed = λ i c. absurd (not_Contains-nil i c);
  groups = have_none h (IsVisibleGroup h) ops none;
}

pub no_items_yet : (h : List Op) → AreItemsOf h [] []
no_items_yet h = no_items h [] (λ o w. not_Contains-nil w.made.op w.made.contained)

pub makes_none : (a : Op) (p : ObjectId) (v : Value) (aim : List OpId) → a.change ≡ Set p v aim
    → (o : ObjectId) → ¬ (IsMade (a ∷ []) o)
makes_none a p v aim e o w = elim (Contains-cons_cases a [] w.made.op w.made.contained) [
  | inl same ↦
      let none : None ≡ Some w.kind = sym (ap (λ (c : Change). made_kind c) (ap (λ (b : Op). b.change)
      same ∙ e)) ∙ w.made.such in absurd cc
  | inr i ↦ not_Contains-nil w.made.op i
]

-- the visible versions of the object that an operation made
pub listed_of_one : (h : List Op) → IsValid h → (a : Op) → IsMade (a ∷ []) (own a)
    → {V E : Type 0} (items : V → List (Placed AnyShape)) (m : ℕ) (r : Result (Option V) E)
    → IfOk r (λ found. IfSome found (λ v. ArePlacedOn h (own a) (items v)))
    → IfOk r (λ found. IfSome found (λ v. length (items v) ≤ m))
    → IfOk r (λ found. IfNone found (HasMoreOn h (own a) m))
    → IfOk r (λ found. IsItemListing h (a ∷ []) m (option_map items found))
listed_of_one h valid a makes items m (Ok (Some v)) x y z = (
  record {
    placed = λ i c. ((x.exactly i).1 c).1;
    groups = (found_of_one h a makes {V = List Group} {E = ℕ} (λ g. g) m
        (Ok (Some (map item_group (items v)))) (groups_on h valid (own a) (items v) x)
        (let count = length-map (items v) item_group in omega (arith, y)) tt).0;
  },
  y,
)
listed_of_one h valid a makes items m (Ok None) x y z = found_of_one h a makes {V = List Group}
    {E = ℕ} (λ g. g) m (Ok None) tt tt z
listed_of_one h valid a makes items m (Err e) x y z = tt

-- ---- one operation more

module _ (h ks : List Op) (a : Op) (fresh : Fresh ks (a ∷ [])) (items : List (Placed AnyShape))
    (so_far : AreItemsOf h ks items) where
  pub items_more : (more : List (Placed AnyShape)) → AreItemsOf h (a ∷ []) more
      → AreItemsOf h (ks ++ a ∷ []) (items ++ more)
  items_more more next = record {
    placed = λ i c. elim (Contains-append_cases items more i c) [
      | inl d ↦ so_far.placed i d
      | inr d ↦ next.placed i d
    ];
    groups = rw (map-append item_group items more)
        (have_more h (IsVisibleGroup h) ks (a ∷ []) (map item_group items) (map item_group more)
        fresh so_far.groups next.groups);
  }

  pub more_than : (all : List Op) (m : ℕ) → ((b : Op) → Contains (ks ++ a ∷ []) b
      → Contains all b) → length items ≤ m → HasMoreGroups h (a ∷ []) (m - length items)
      → HasMoreGroups h all m
  more_than all m within few w =
      let count = length-map items item_group in
      more_in_all h ks (a ∷ []) all (map item_group items) m within fresh so_far.groups
      (omega (arith, count, few)) (rw count w)

-- ---- of all

module _ (h : List Op) (valid : IsValid h) (items : List (Placed AnyShape))
    (all : AreItemsOf h h items) where
  -- they differ by their keys
  pub keys_apart : AllPairs (λ i j. i.key ≢ j.key) items
  keys_apart i j d before inside e =
      let count = length-map items item_group in
      let there : i < length items = omega arith in
      all.groups.once i j (item_group d) before (omega arith)
      (get_or-map item_group items i d (item_group d) there
      ∙ (same (get_or items i d) (get_or items j d) e
      ∙ sym (get_or-map item_group items j d (item_group d) inside)))
    where
      same : (x y : Placed AnyShape) → x.key ≡ y.key → item_group x ≡ item_group y
      same x y q = λ n. record { object = (q n).object; ops = (q n).ops }

  is_there : (i : Placed AnyShape) → IsPlaced h i → Contains items i
  is_there i x =
      let v = x.version in
      let kind = version_kind h valid v.key.object v.key.ops x.visible.version.version in
      let made : IsMade h i.key.object = subst (IsMade h)
      (ap (λ (j : Placed AnyShape). j.key.object) (sym x.placed))
      (record { kind = kind.0; made = kind.1 }) in
      let from = Contains-map_from item_group items (item_group i)
      (all.groups.all (item_group i) (placed_group h i x) made) in
      let one = one_item h valid i from.0 x (all.placed from.0 from.1) from.2 in
      subst (Contains items) (sym one) from.1

  -- ranked, they are the ranked list
  pub ranked_items : (ranked : List (Placed AnyShape)) → IsPermutation items ranked
      → AllPairs (λ i j. IsAbove i.key j.key) ranked → AreRanked h ranked
  ranked_items ranked moved falling = record {
    exactly = λ i. (
      λ x. Contains-permutation items ranked i moved (is_there i x),
      λ c. all.placed i (Contains-permutation ranked items i (IsPermutation-sym _ _ moved) c),
    );
    falling = falling;
  }

pub as_few : (m : ℕ) (items ranked : List (Placed AnyShape)) → IsPermutation items ranked
    → length items ≤ m → length ranked ≤ m
as_few m items ranked moved few = let same = length_permutation items ranked moved in omega arith
