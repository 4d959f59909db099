-- The groups of the versions of some objects, one object after another, and of all; and those of
-- the visible ones.
use Rattle.std.proofs.Common.{◌≡◌, ◌≢◌, ℕ, ◌-◌, ◌<◌, ◌≤◌, List, [], ◌∷◌, ◌++◌, length, map, take}
use Rattle.std.proofs.Common.{get_or, inl, inr, refl, sym, ap, subst, ◌∙◌, arith}
use Rattle.std.specs.Prelude.{◌⊎◌, AllPairs, Contains, IfNone, IfOk, IfSome, Option, Some, None}
use Rattle.std.specs.Prelude.{Result, Ok, Err, option_map}
use Rattle.std.proofs.lemmas.List.{get_or-take, length-append, length-map, length-take}
use Rattle.std.proofs.lemmas.List.Elements.{Contains-append_cases, Contains-append_left}
use Rattle.std.proofs.lemmas.List.Elements.{Contains-append_right, Contains-push_cases}
use Rattle.std.proofs.lemmas.Option.{slice_get_read}
use Rattle.std.specs.List.Sorted.{IsStrictlySortedBy}
use Rattle.std.specs.declared.cmp.Ordering.TheVariants.{Less}
use Rattle.std.proofs.lemmas.Cmp.{tied_itself}
use Rattle.std.proofs.lemmas.List.Elements.{Contains-get_or}
use Rattle.std.proofs.lemmas.List.Kept.{AllPairs-cons}
use Rattle.std.proofs.lemmas.Map.Keys.{sorted_tail}
use Rattle.gf_groups.proofs.GroupLemmas.{group_cmp_total}
use Rattle.gf_base.proofs.RisingLemmas.{below_tail}
use Rattle.gf_shape.specs.declared.any_shape.AnyShape.{AnyShape}
use Rattle.gf_ops.specs.declared.op.Op.{Op}
use Rattle.gf_ops.specs.declared.op.ObjectId.{ObjectId}
use Rattle.gf_ops.specs.declared.change.Change.TheVariants.{Create}
use Rattle.gf_ops.specs.declared.change.Start.{Start}
use Rattle.gf_ops.specs.Attribute.{kind_of, made_kind}
use Rattle.gf_ops.specs.ValidHistory.{IsValid}
use Rattle.gf_base.proofs.ListLemmas.{Contains-cons_cases, Contains-cons_head, Contains-map}
use Rattle.gf_base.proofs.ListLemmas.{not_Contains-nil}
use Rattle.gf_groups.specs.declared.group.Group.{Group}
use Rattle.gf_groups.specs.Versions.{IsMade, IsVersionGroup, AreVersions, group_cmp}
use Rattle.gf_groups.proofs.IdPositionLemmas.{same_position}
use Rattle.gf_base.proofs.PairLemmas.{AllPairs-append}
use Rattle.gf_base.proofs.CountLemmas.{no_longer}
use Rattle.gf_visible.specs.ShownVersions.{IsVisibleGroup, AreVisibleOn, HasMoreOn, HasMoreVisible}
use Rattle.gf_visible.specs.VisibleSoFar.{HaveVisible, AreVisibleOf, HaveVisibleOf, HasMoreGroups}
use Rattle.gf_visible.specs.VisibleSoFar.{IsGroupListing}
use Rattle.gf_versions.specs.declared.placed.Placed.{Placed}
use Rattle.gf_versions.specs.Ranking.{AreRanked, AreRankedOf, group_of, placed_version}
use Rattle.gf_versions.proofs.MakerLemmas.{version_kind}
use Rattle.gf_versions.proofs.RankedLemmas.{some_ranked}
use Rattle.gf_ops.proofs.ValidityLemmas.{has_beyond}

-- ---- who made an object

made_weaker : (ks ops : List Op) (o : ObjectId) → ((a : Op) → Contains ks a → Contains ops a)
    → IsMade ks o → IsMade ops o
made_weaker ks ops o f w = record {
  kind = w.kind;
  made = has_beyond ks ops f w.made;
}

made_cases : (ks ops : List Op) (o : ObjectId) → IsMade (ks ++ ops) o → IsMade ks o ⊎ IsMade ops o
made_cases ks ops o w = elim (Contains-append_cases ks ops w.made.op w.made.contained) [
  | inl i ↦ inl (record {
    kind = w.kind;
    made = record { op = w.made.op; contained = i; id = w.made.id; such = w.made.such };
  })
  | inr i ↦ inr (record {
    kind = w.kind;
    made = record { op = w.made.op; contained = i; id = w.made.id; such = w.made.such };
  })
]

-- the object that an operation may make
abbrev pub own : Op → ObjectId
own a = record { 0 = a.id }

pub makes_one : (a : Op) (start : Start) → a.change ≡ Create start → IsMade (a ∷ []) (own a)
makes_one a start e = record {
  kind = kind_of start.form;
  made = record {
    op = a;
    contained = Contains-cons_head a [];
    id = refl;
    such = ap (λ c. made_kind c) e;
  };
}

one_maker : (a : Op) (o : ObjectId) (w : IsMade (a ∷ []) o) → w.made.op ≡ a
one_maker a o w = elim (Contains-cons_cases a [] w.made.op w.made.contained) [
  | inl e ↦ e
  | inr i ↦ absurd (not_Contains-nil w.made.op i)
]

pub made_in : (h : List Op) (a : Op) → Contains h a → IsMade (a ∷ []) (own a) → IsMade h (own a)
made_in h a there w = made_weaker (a ∷ []) h (own a)
    (λ b i. elim (Contains-cons_cases a [] b i) [
      | inl e ↦ subst (Contains h) (sym e) there
      | inr j ↦ absurd (not_Contains-nil b j)
    ]) w

-- the object of a version was made
version_made : (h : List Op) → IsValid h → (g : Group) → IsVersionGroup h g → IsMade h g.object
version_made h valid g version =
    let kind = version_kind h valid g.object g.ops version in
    record { kind = kind.0; made = kind.1 }

-- and that of a visible one
visible_made : (h : List Op) → IsValid h → (g : Group) → IsVisibleGroup h g → IsMade h g.object
visible_made h valid g w = version_made h valid g
    (subst (IsVersionGroup h) w.group w.visible.version.version)

-- rising groups stand once each
each_once : (groups : List Group) → IsStrictlySortedBy group_cmp groups
    → AllPairs (λ g k. g ≢ k) groups
each_once [] rising = λ i j d l m. absurd (omega arith)
each_once (g ∷ gs) rising = AllPairs-cons (λ k l. k ≢ l) g gs
    (λ k d l e.
    let less = below_tail group_cmp group_cmp_total g gs rising (get_or gs k d)
    (Contains-get_or gs k d l) in
    let same : group_cmp g g ≡ Less = subst (λ z. group_cmp g z ≡ Less) (sym e) less in
    let tied = tied_itself group_cmp_total g in
    absurd cc)
    (each_once gs (sorted_tail group_cmp g gs rising))

-- operations that made other objects
abbrev pub Fresh : List Op → List Op → Type 0
Fresh ks ops = (a b : Op) → Contains ks a → Contains ops b → a.id ≢ b.id

once_more : (P : Group → Type 0) (ks ops : List Op) (groups more : List Group) → Fresh ks ops
    → ((g : Group) → Contains groups g → P g × IsMade ks g.object)
    → ((g : Group) → Contains more g → P g × IsMade ops g.object) →
    AllPairs (λ g k. g ≢ k) groups → AllPairs (λ g k. g ≢ k) more
    → AllPairs (λ g k. g ≢ k) (groups ++ more)
once_more P ks ops groups more fresh first second p q = AllPairs-append (λ g k. g ≢ k) groups more p
    q (λ g k x y e.
    let v = (first g x).1 in
    let w = (second k y).1 in
    fresh v.made.op w.made.op v.made.contained w.made.contained
    (v.made.id ∙ (ap (λ (z : Group). z.object.0) e ∙ sym w.made.id)))

module _ (h : List Op) (P : Group → Type 0) where
  pub have_none : (ops : List Op) → ((o : ObjectId) → ¬ (IsMade ops o)) → HaveVisible P h ops []
  have_none ops none = record {
    each = λ g i. absurd (not_Contains-nil g i);
    all = λ g v made. absurd (none g.object made);
    once = λ i j d l m. absurd (omega arith);
  }

  pub have_none_yet : HaveVisible P h [] []
  have_none_yet = have_none [] (λ o w. not_Contains-nil w.made.op w.made.contained)

  -- and of one that makes one
  pub have_of_one : (a : Op) → IsMade (a ∷ []) (own a) → (groups : List Group)
      → ((g : Group) → Contains groups g → (g.object ≡ own a) × P g)
      → ((g : Group) → g.object ≡ own a → IsVisibleGroup h g → Contains groups g) →
      AllPairs (λ g k. g ≢ k) groups → HaveVisible P h (a ∷ []) groups
  have_of_one a makes groups each all once = record {
    each = λ g i. let w = each g i in (w.1, subst (IsMade (a ∷ [])) (sym w.0) makes);
    all = λ g v made. let e : g.object.0 ≡ a.id = sym made.made.id
        ∙ ap (λ (b : Op). b.id) (one_maker a g.object made) in all g (λ i. record { 0 = e i }) v;
    once = once;
  }

  pub have_more : (ks ops : List Op) (groups more : List Group) → Fresh ks ops
      → HaveVisible P h ks groups → HaveVisible P h ops more
      → HaveVisible P h (ks ++ ops) (groups ++ more)
  have_more ks ops groups more fresh first second = record {
    each = λ g i. elim (Contains-append_cases groups more g i) [
      | inl j ↦ let w = first.each g j in
          (w.0, made_weaker ks (ks ++ ops) g.object (λ a. Contains-append_left ks ops a) w.1)
      | inr j ↦ let w = second.each g j in
          (w.0, made_weaker ops (ks ++ ops) g.object (λ a. Contains-append_right ks ops a) w.1)
    ];
    all = λ g v made. elim (made_cases ks ops g.object made) [
      | inl w ↦ Contains-append_left groups more g (first.all g v w)
      | inr w ↦ Contains-append_right groups more g (second.all g v w)
    ];
    once = once_more P ks ops groups more fresh first.each second.each first.once second.once;
  }

-- ---- of visible versions

version_group : (h : List Op) (g : Group) → IsVisibleGroup h g → IsVersionGroup h g
version_group h g w = subst (IsVersionGroup h) w.group w.visible.version.version

-- the visible ones are versions
pub have_visible : (h ops : List Op) (groups : List Group) → AreVisibleOf h ops groups
    → HaveVisibleOf h ops groups
have_visible h ops groups have = record {
  each = λ g i. let w = have.each g i in (version_group h g w.0, w.1);
  all = have.all;
  once = have.once;
}

-- all versions of the object that an operation made
pub versions_of_one : (h : List Op) (a : Op) → IsMade (a ∷ []) (own a) → (groups : List Group)
    → AreVersions h (own a) groups → HaveVisibleOf h (a ∷ []) groups
versions_of_one h a makes groups all = have_of_one h (IsVersionGroup h) a makes groups
    (λ g. (all.exactly g).0) (λ g e v. (all.exactly g).1 (e, version_group h g v))
    (each_once groups all.rising)

module _ (h : List Op) where
  -- the visible ones of the object that an operation made
  module _ (a : Op) (makes : IsMade (a ∷ []) (own a)) where
    all_of_one : (groups : List Group) → AreVisibleOn h (own a) groups
        → AreVisibleOf h (a ∷ []) groups
    all_of_one groups all = have_of_one h (IsVisibleGroup h) a makes groups (λ g. (all.exactly g).0)
        (λ g e v. (all.exactly g).1 (e, v)) all.once

    pub found_of_one : {V E : Type 0} (items : V → List Group) (m : ℕ) (r : Result (Option V) E)
        → IfOk r (λ found. IfSome found (λ v. AreVisibleOn h (own a) (items v)))
        → IfOk r (λ found. IfSome found (λ v. length (items v) ≤ m)) →
        IfOk r (λ found. IfNone found (HasMoreOn h (own a) m))
        → IfOk r (λ found. IsGroupListing h (a ∷ []) m (option_map items found))
    found_of_one items m (Ok (Some v)) x y z = (all_of_one (items v) x, y)
    found_of_one items m (Ok None) x y z = let all = all_of_one z.groups z.all in record {
      groups = z.groups;
      each = all.each;
      once = all.once;
      many = z.many;
    }
    found_of_one items m (Err e) x y z = tt

  -- more groups of later operations than were left
  pub more_in_all : (ks ops all : List Op) (groups : List Group) (m : ℕ)
      → ((a : Op) → Contains (ks ++ ops) a → Contains all a) → Fresh ks ops
      → AreVisibleOf h ks groups → length groups ≤ m → HasMoreGroups h ops (m - length groups)
      → HasMoreGroups h all m
  more_in_all ks ops all groups m within fresh first few w = record {
    groups = groups ++ w.groups;
    each = λ g i. elim (Contains-append_cases groups w.groups g i) [
      | inl j ↦ let v = first.each g j in
          (v.0, made_weaker ks all g.object (λ a k. within a (Contains-append_left ks ops a k)) v.1)
      | inr j ↦ let v = w.each g j in (
        v.0,
        made_weaker ops all g.object (λ a k. within a (Contains-append_right ks ops a k)) v.1,
      )
    ];
    once = once_more (IsVisibleGroup h) ks ops groups w.groups fresh first.each w.each first.once
        w.once;
    many = let e = length-append groups w.groups in let k = w.many in omega (arith, e, k, few);
  }

  -- ---- of all

  abbrev group_of_item : Placed AnyShape → Group
  group_of_item i = record { object = i.key.object; ops = i.key.ops }

  -- more groups than so many, so a longer ranked list
  pub more_visible : IsValid h → (ops : List Op) (m : ℕ) → HasMoreGroups h ops m
      → HasMoreVisible h m
  more_visible valid ops m w =
      let all = some_ranked h valid in
      let there : (g : Group) → Contains w.groups g → Contains (map group_of_item all.0) g = λ g i.
      let v = (w.each g i).0 in
      let item = (all.1.exactly (placed_version v.version)).0
      (record { version = v.version; visible = v.visible; placed = refl }) in
      subst (Contains (map group_of_item all.0)) v.group
      (Contains-map group_of_item all.0 (placed_version v.version) item) in
      let long = no_longer w.groups (map group_of_item all.0) w.once there in
      let same = length-map all.0 group_of_item in
      let many = w.many in
      record { items = all.0; ranked = all.1; many = omega (arith, long, same, many) }

  -- ranked, they are the history's ranked list
  pub ranked_have : IsValid h → (groups : List Group) → HaveVisibleOf h h groups
      → (items : List (Placed AnyShape)) → AreRankedOf h groups items → AreRanked h items
  ranked_have valid groups have items ranked = record {
    exactly = λ i. (
      λ is.
          let g : IsVisibleGroup h (group_of is.version) = record {
            version = is.version;
            visible = is.visible;
            group = refl;
          } in
          (ranked.exactly i).0 (record {
            version = is.version;
            visible = is.visible;
            grouped = have.all (group_of is.version) g
                (visible_made h valid (group_of is.version) g);
            placed = is.placed;
          }),
      λ c. let w = (ranked.exactly i).1 c in record {
        version = w.version;
        visible = w.visible;
        placed = w.placed;
      },
    );
    falling = ranked.falling;
  }

-- ---- the operations of a history, one after another

module _ (h : List Op) where
  pub in_front : (n : ℕ) (a : Op) → Contains (take n h) a → Contains h a
  in_front n a (k, m, q) =
      let l = length-take n h in
      (k, omega (arith, m, l), sym (get_or-take n h k a (omega (arith, m, l))) ∙ q)

  -- the next operation made none of the objects so far
  pub fresh_next : IsValid h → (i : ℕ) (a : Op) → i < length h → a ≡ get_or h i a
      → Fresh (take i h) (a ∷ [])
  fresh_next valid i a l is b d (k, m, q) y e =
      let len = length-take i h in
      let below : k < i = omega (arith, m, len) in
      let at_k = slice_get_read h (length h) k b refl (omega (arith, l, below))
      (sym (sym (get_or-take i h k b below) ∙ q)) in
      let at_i = slice_get_read h (length h) i a refl l is in
      elim (Contains-cons_cases a [] d y) [
        | inl f ↦ let same = same_position h valid k i b a at_k at_i
            (e ∙ ap (λ (z : Op). z.id) f) in absurd (omega (arith, same, below))
        | inr j ↦ absurd (not_Contains-nil d j)
      ]

  pub next_in : (i : ℕ) (a : Op) → i < length h → a ≡ get_or h i a → (b : Op)
      → Contains (take i h ++ a ∷ []) b → Contains h b
  next_in i a l is b m = elim (Contains-push_cases (take i h) a b m) [
    | inl k ↦ in_front i b k
    | inr e ↦ subst (Contains h) e (i, l, sym is)
  ]
