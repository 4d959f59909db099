-- The visible versions of all groups, once sorted, are ranked.
use Rattle.std.proofs.Common.{◌≡◌, ◌≢◌, ◌≤◌, suc, length, Bool, true, false, List, [], ◌∷◌, ◌++◌}
use Rattle.std.proofs.Common.{map, refl, sym, subst, ap, ◌∙◌, inl, inr, arith}
use Rattle.std.specs.Prelude.{AllPairs, Contains}
use Rattle.std.specs.declared.cmp.Ordering.{Ordering}
use Rattle.std.specs.declared.cmp.Ordering.TheVariants.{Less, Equal, Greater}
use Rattle.std.specs.Cmp.{IsStrictWeakOrder}
use Rattle.std.specs.List.{IsDistinct}
use Rattle.std.specs.List.Sorted.{IsPermutation, IsSortedBy}
use Rattle.std.specs.Ordering.{is_lt, is_eq, ordering_reverse}
use Rattle.std.proofs.lemmas.Bool.{cases_Bool, cond-true, cond-false}
use Rattle.std.proofs.lemmas.List.Elements.{All-weaker, All-contains_itself, Contains-push_cases}
use Rattle.std.proofs.lemmas.List.Elements.{filter-append, recursion_from_All}
use Rattle.std.proofs.lemmas.List.{append-nil, get_or-map, length-map, map-append}
use Rattle.std.proofs.lemmas.List.Sorted.{ranks_by, IsStrictWeakOrder-flip, sorted_far}
use Rattle.std.proofs.lemmas.List.Sorted.{Contains-permutation, IsPermutation-sym}
use Rattle.std.proofs.lemmas.List.Sorted.{length_permutation}
use Rattle.std.proofs.lemmas.Map.Keys.{IsDistinct-cons, IsDistinct-IsPermutation}
use Rattle.std.proofs.lemmas.Map.Keys.{apart_from_distinct}
use Rattle.gf_ops.specs.declared.op.Op.{Op}
use Rattle.gf_ops.specs.ValidHistory.{IsValid}
use Rattle.gf_versions.specs.declared.key.Version.{Version}
use Rattle.gf_shape.specs.declared.any_shape.AnyShape.{AnyShape}
use Rattle.gf_versions.specs.declared.placed.Placed.{Placed}
use Rattle.gf_versions.specs.Above.{IsAbove, key_cmp}
use Rattle.gf_versions.specs.ListedVersions.{AreSettled, AreShown, shown_of}
use Rattle.gf_versions.specs.VersionOf.{IsVersionOf}
use Rattle.gf_versions.specs.Falling.{falls_by}
use Rattle.gf_versions.specs.Ranking.{AreRankedOf, group_of, placed_version}
use Rattle.gf_groups.specs.declared.group.Group.{Group}
use Rattle.gf_versions.proofs.VersionLemmas.{one_of_group}
use Rattle.gf_versions.specs.KeyOrder.{key_cmp_total}
use Rattle.gf_versions.proofs.KeyLemmas.{key_cmp_exact}
use Rattle.gf_base.proofs.ListLemmas.{Contains-map, Contains-map_from, not_Contains-nil}
use Rattle.gf_base.proofs.FilterLemmas.{Contains-filter}
use Rattle.gf_groups.proofs.SortedLemmas.{equal_left}

pub falls_by_order : {S : Type 0} → IsStrictWeakOrder (falls_by {S = S})
falls_by_order {S} = IsStrictWeakOrder-flip _ (ranks_by key_cmp_total (λ (i : Placed S). i.key))

abbrev same_key : Placed AnyShape → Placed AnyShape → Bool
same_key i j = is_eq (key_cmp i.key j.key)

same_key-flips : (i j : Placed AnyShape) → same_key i j ≡ same_key j i
same_key-flips i j = ap is_eq (key_cmp_total.antisymm i.key j.key) ∙ turned (key_cmp j.key i.key)
  where
    turned : (o : Ordering) → is_eq (ordering_reverse o) ≡ is_eq o
    turned Less = refl
    turned Equal = refl
    turned Greater = refl

greater_left : (o : Ordering) → is_lt o ≡ false → is_eq o ≡ false → o ≡ Greater
greater_left Less e f = absurd cc
greater_left Equal e f = absurd cc
greater_left Greater e f = refl

-- what is sorted and has each key once falls
falling_from_sorted : (items : List (Placed AnyShape)) → IsSortedBy falls_by items
    → IsDistinct same_key items → AllPairs (λ i j. IsAbove i.key j.key) items
falling_from_sorted items sorted distinct i j d before inside =
    greater_left _ (sorted_far falls_by falls_by_order items sorted i j d (omega arith) inside)
    (apart_from_distinct same_key items i j d distinct before inside)

abbrev items_of : List Version → List (Placed AnyShape)
items_of vs = map placed_version (shown_of vs)

-- each item is one of the versions at its place
item_version : (vs : List Version) (i : Placed AnyShape) → Contains (items_of vs) i
    → (v : Version) × Contains vs v × (i ≡ placed_version v)
item_version vs i c =
    let from = Contains-map_from placed_version (shown_of vs) i c in
    (from.0, ((Contains-filter (λ (v : Version). v.shown) vs from.0).0 from.1).0, from.2)

-- versions of two groups have two keys
keys_apart : (v w : Version) → group_of v ≢ group_of w
    → same_key (placed_version v) (placed_version w) ≡ false
keys_apart v w different = elim (cases_Bool (same_key (placed_version v) (placed_version w))) [
  | inl t ↦
      let key = key_cmp_exact v.key w.key (equal_left _ t) in
      absurd (different (λ n. record { object = (key n).object; ops = (key n).ops }))
  | inr t ↦ t
]

-- the first version has another key than each later one
head_apart : (v : Version) (vs : List Version) → AllPairs (λ u w. group_of u ≢ group_of w) (v ∷ vs)
    → (i : Placed AnyShape) → Contains (items_of vs) i → same_key (placed_version v) i ≡ false
head_apart v vs apart i c =
    let m = item_version vs i c in
    let (k, inside, e) = m.1 in
    let different : group_of v ≢ group_of m.0 = subst (λ (w : Version). group_of v ≢ group_of w) e
    (apart 0 (suc k) m.0 (omega arith) (omega arith)) in
    subst (λ j. same_key (placed_version v) j ≡ false) (sym m.2) (keys_apart v m.0 different)

items_distinct : (vs : List Version) → AllPairs (λ u w. group_of u ≢ group_of w) vs
    → IsDistinct same_key (items_of vs)
unfolding IsDistinct
items_distinct [] apart = tt
items_distinct (v ∷ vs) apart =
    let rest = items_distinct vs (λ i j d before inside. apart (suc i) (suc j) d (omega arith)
    (omega arith)) in
    elim (cases_Bool v.shown) [
      | inl t ↦ rw (cond-true v.shown (v ∷ shown_of vs) (shown_of vs) t)
          (IsDistinct-cons same_key (placed_version v) (items_of vs)
          (recursion_from_All _ _ (All-weaker (Contains (items_of vs))
          (λ i. same_key (placed_version v) i ≡ false) (head_apart v vs apart) (items_of vs)
          (All-contains_itself (items_of vs)))) rest)
      | inr t ↦ rw (cond-false v.shown (v ∷ shown_of vs) (shown_of vs) t) rest
    ]

-- versions of distinct groups are of distinct groups
pub groups_apart : (groups : List Group) (vs : List Version) → map group_of vs ≡ groups
    → AllPairs (λ g k. g ≢ k) groups → AllPairs (λ u w. group_of u ≢ group_of w) vs
groups_apart groups vs e once i j d before inside f =
    let same = length-map vs group_of in
    let apart = subst (λ ks. AllPairs (λ g k. g ≢ k) ks) (sym e) once i j (group_of d) before
    (omega arith) in
    apart (get_or-map group_of vs i d (group_of d) (omega arith)
    ∙ (f ∙ sym (get_or-map group_of vs j d (group_of d) inside)))

-- ---- one group more

pub settled_more : (h : List Op) (groups : List Group) (vs : List Version) → AreSettled h groups vs
    → (g : Group) (v : Version) → IsVersionOf h v → group_of v ≡ g
    → AreSettled h (groups ++ g ∷ []) (vs ++ v ∷ [])
settled_more h groups vs settled g v is e = record {
  grouped = map-append group_of vs (v ∷ []) ∙ (λ n. settled.grouped n ++ e n ∷ []);
  versions = λ w c. elim (Contains-push_cases vs v w c) [
    | inl k ↦ settled.versions w k
    | inr s ↦ subst (IsVersionOf h) s is
  ];
}

module _ (h : List Op) (groups : List Group) (items : List (Placed AnyShape))
    (so_far : AreShown h groups items) (g : Group) (v : Version) (is : IsVersionOf h v)
    (e : group_of v ≡ g) where
  one_more : AreSettled h (groups ++ g ∷ []) (so_far.versions ++ v ∷ [])
  one_more = settled_more h groups so_far.versions so_far.settled g v is e

  pub shown_more : v.shown ≡ true → AreShown h (groups ++ g ∷ []) (items ++ placed_version v ∷ [])
  shown_more t = record {
    versions = so_far.versions ++ v ∷ [];
    settled = one_more;
    placed = rw (
      filter-append (λ (w : Version). w.shown) so_far.versions (v ∷ []),
      cond-true v.shown (v ∷ []) [] t,
      map-append placed_version (shown_of so_far.versions) (v ∷ []),
    ) (λ n. so_far.placed n ++ placed_version v ∷ []);
  }

  pub hidden_more : v.shown ≡ false → AreShown h (groups ++ g ∷ []) items
  hidden_more t = record {
    versions = so_far.versions ++ v ∷ [];
    settled = one_more;
    placed = rw (
      filter-append (λ (w : Version). w.shown) so_far.versions (v ∷ []),
      cond-false v.shown (v ∷ []) [] t,
      append-nil,
    ) so_far.placed;
  }

pub shown_none : (h : List Op) → AreShown h [] []
shown_none h = record {
  versions = [];
  settled = record { grouped = refl; versions = λ v c. absurd (not_Contains-nil v c) };
  placed = refl;
}

-- ---- the ranking

-- the shown versions of different groups, sorted, are ranked
pub ranked_from_sorted : (h : List Op) (groups : List Group) (made items : List (Placed AnyShape))
    → IsValid h → AllPairs (λ g k. g ≢ k) groups → AreShown h groups made → IsPermutation made items
    → IsSortedBy falls_by items → AreRankedOf h groups items
ranked_from_sorted h groups made items valid once shown moved sorted = record {
  exactly = λ i. (
    λ is.
        let v = is.version in
        let from = Contains-map_from group_of vs (group_of v)
        (subst (λ ks. Contains ks (group_of v)) (sym shown.settled.grouped) is.grouped) in
        let one : v ≡ from.0 = one_of_group h valid v from.0 is.visible.version
        (shown.settled.versions from.0 from.1) (ap (λ (g : Group). g.object) from.2)
        (ap (λ (g : Group). g.ops) from.2) in
        let there : Contains (shown_of vs) v = (Contains-filter (λ (w : Version). w.shown) vs v).1 (
          subst (Contains vs) (sym one) from.1,
          is.visible.shown,
        ) in
        Contains-permutation (items_of vs) items i turned
        (subst (λ j. Contains (items_of vs) j) (sym is.placed)
        (Contains-map placed_version (shown_of vs) v there)),
    λ c.
        let from = Contains-map_from placed_version (shown_of vs) i
        (Contains-permutation items (items_of vs) i (IsPermutation-sym _ _ turned) c) in
        let there = (Contains-filter (λ (w : Version). w.shown) vs from.0).0 from.1 in
        record {
          version = from.0;
          visible = record { version = shown.settled.versions from.0 there.0; shown = there.1 };
          grouped = subst (λ ks. Contains ks (group_of from.0)) shown.settled.grouped
              (Contains-map group_of vs from.0 there.0);
          placed = from.2;
        },
  );
  falling = falling_from_sorted items sorted (IsDistinct-IsPermutation same_key same_key-flips
      (items_of vs) items turned
      (items_distinct vs (groups_apart groups vs shown.settled.grouped once)));
}
  where
    vs : List Version
    vs = shown.versions

    turned : IsPermutation (items_of vs) items
    turned = subst (λ from. IsPermutation from items) shown.placed moved

-- ---- items with different keys

-- the first item has another key than each later one
first_apart : (i : Placed AnyShape) (items : List (Placed AnyShape))
    → AllPairs (λ j k. j.key ≢ k.key) (i ∷ items) → (j : Placed AnyShape) → Contains items j
    → same_key i j ≡ false
first_apart i items apart j (k, inside, e) =
    let different : i.key ≢ j.key = subst (λ (z : Placed AnyShape). i.key ≢ z.key) e
    (apart 0 (suc k) j (omega arith) (omega arith)) in
    elim (cases_Bool (same_key i j)) [
      | inl t ↦ absurd (different (key_cmp_exact i.key j.key (equal_left _ t)))
      | inr t ↦ t
    ]

keys_distinct : (items : List (Placed AnyShape)) → AllPairs (λ i j. i.key ≢ j.key) items
    → IsDistinct same_key items
unfolding IsDistinct
keys_distinct [] apart = tt
keys_distinct (i ∷ items) apart = IsDistinct-cons same_key i items
    (recursion_from_All _ _ (All-weaker (Contains items) (λ j. same_key i j ≡ false)
    (first_apart i items apart) items (All-contains_itself items)))
    (keys_distinct items (λ j k d before inside. apart (suc j) (suc k) d (omega arith)
    (omega arith)))

-- sorted, they fall
pub falling_by_keys : (made items : List (Placed AnyShape)) → AllPairs (λ i j. i.key ≢ j.key) made
    → IsPermutation made items → IsSortedBy falls_by items
    → AllPairs (λ i j. IsAbove i.key j.key) items
falling_by_keys made items apart moved sorted = falling_from_sorted items sorted
    (IsDistinct-IsPermutation same_key same_key-flips made items moved (keys_distinct made apart))

shown_fewer : (vs : List Version) → length (shown_of vs) ≤ length vs
shown_fewer [] = omega arith
shown_fewer (v ∷ vs) =
    let r = shown_fewer vs in
    elim (cases_Bool v.shown) [
      | inl y ↦ rw (cond-true v.shown (v ∷ shown_of vs) (shown_of vs) y) (omega (arith, r))
      | inr n ↦ rw (cond-false v.shown (v ∷ shown_of vs) (shown_of vs) n) (omega (arith, r))
    ]

-- there are no more items than groups
pub no_more_items : (h : List Op) (groups : List Group) (made items : List (Placed AnyShape))
    → AreShown h groups made → IsPermutation made items → length items ≤ length groups
no_more_items h groups made items shown moved =
    let a = length_permutation made items moved in
    let b : length made ≡ length (shown_of shown.versions) = ap length shown.placed
    ∙ length-map (shown_of shown.versions) placed_version in
    let d = shown_fewer shown.versions in
    let e : length shown.versions ≡ length groups = sym (length-map shown.versions group_of)
    ∙ ap length shown.settled.grouped in
    omega (arith, a, b, d, e)
