-- A status that is clean is that of a history with at most 1,000 visible versions.
use Rattle.std.proofs.Common.{◌≡◌, ◌≢◌, ℕ, ◌+◌, ◌≤◌, Bool, true, false, ◌&&◌, cond, get_or}
use Rattle.std.proofs.Common.{List, [], ◌∷◌, ◌++◌, length, map, refl, sym, ap, subst, ◌∙◌, inl, inr}
use Rattle.std.proofs.Common.{arith}
use Rattle.std.specs.Prelude.{AllPairs, Contains, nat_le}
use Rattle.std.specs.List.{fold, list_all}
use Rattle.std.proofs.lemmas.Bool.{cases_lt, leb-true}
use Rattle.std.proofs.lemmas.List.{length-append, length-map}
use Rattle.std.proofs.lemmas.List.Elements.{Contains-append_left, Contains-append_right}
use Rattle.gf_shape.specs.declared.any_shape.AnyShape.{AnyShape}
use Rattle.gf_json.specs.declared.notation.Notation.{Notation}
use Rattle.gf_ops.specs.declared.op.Op.{Op}
use Rattle.gf_ops.specs.declared.op.ObjectId.{ObjectId}
use Rattle.gf_ops.specs.declared.op.OpId.{OpId}
use Rattle.gf_ops.specs.ValidHistory.{IsValid}
use Rattle.gf_base.proofs.ListLemmas.{Contains-cons_cases, Contains-cons_head, Contains-cons_tail}
use Rattle.gf_base.proofs.ListLemmas.{Contains-map_from, not_Contains-nil}
use Rattle.gf_base.proofs.PairLemmas.{AllPairs-map}
use Rattle.gf_base.proofs.CountLemmas.{no_longer}
use Rattle.gf_groups.specs.declared.group.Group.{Group}
use Rattle.gf_groups.specs.Versions.{IsMade}
use Rattle.gf_versions.specs.Above.{IsAbove}
use Rattle.gf_versions.specs.declared.placed.Placed.{Placed}
use Rattle.gf_versions.specs.Ranking.{AreRanked, group_of, placed_version}
use Rattle.gf_versions.proofs.KeyLemmas.{above_one_way}
use Rattle.gf_versions.proofs.MakerLemmas.{version_kind}
use Rattle.gf_versions.proofs.VersionLemmas.{one_of_group}
use Rattle.gf_visible.specs.ShownVersions.{HasMoreVisible, IsVisibleGroup}
use Rattle.gf_listing.specs.Counting.{capped}
use Rattle.gf_listing.proofs.CountingLemmas.{capped_few, capped_many}
use Rattle.gf_status.specs.declared.objects.ObjectStatus.{ObjectStatus}
use Rattle.gf_status.specs.declared.state.State.TheVariants.{Clean, Open}
use Rattle.gf_status.specs.ObjectStatuses.{AreStatuses, IsObjectStatus}
use Rattle.gf_status.specs.StatusLines.{are_clean, is_clean, is_none, shown_in}
use Rattle.gf_status.specs.StatusRun.{TellsStatus}

-- ---- counts

-- two counts are counted as their sum
capped_sum : (a b m n : ℕ) → m ≡ capped a → n ≡ capped b → capped (m + n) ≡ capped (a + b)
capped_sum a b m n e f = elim (cases_lt a 1001) [
  | inl l ↦ elim (cases_lt b 1001) [
    | inl k ↦
        let x : m ≡ a = e ∙ capped_few a (omega (arith, l)) in
        let y : n ≡ b = f ∙ capped_few b (omega (arith, k)) in
        rw (x, y) refl
    | inr k ↦ let y : n ≡ 1001 = f ∙ capped_many b (omega (arith, k)) in
        capped_many (m + n) (omega (arith, y)) ∙ sym (capped_many (a + b) (omega (arith, k)))
  ]
  | inr l ↦ let x : m ≡ 1001 = e ∙ capped_many a (omega (arith, l)) in
      capped_many (m + n) (omega (arith, x)) ∙ sym (capped_many (a + b) (omega (arith, l)))
]

within : (n : ℕ) → capped n ≤ 1000 → n ≤ 1000
within n l = elim (cases_lt n 1001) [
  | inl k ↦ omega (arith, k)
  | inr k ↦ let e = capped_many n (omega (arith, k)) in absurd (omega (arith, e, l))
]

same_object : (o p : ObjectId) → o.0 ≡ p.0 → o ≡ p
same_object o p e = ap (λ (i : OpId). record { 0 = i }) e

-- ---- all groups of the objects

module _ (h : List Op) where
  -- the groups hold those of all visible versions of these objects
  abbrev HoldsAll : List ObjectStatus → List Group → Type 0
  HoldsAll ss groups = (s : ObjectStatus) (g : Group) → Contains ss s → g.object ≡ s.object
      → IsVisibleGroup h g → Contains groups g

  -- with the groups gs before those of the objects, n of them
  gathered : (ss : List ObjectStatus) → ((s : ObjectStatus) → Contains ss s → IsObjectStatus h s)
      → (n : ℕ) (gs : List Group) → n ≡ capped (length gs) →
      (all : List Group) × ((g : Group) → Contains gs g → Contains all g) × HoldsAll ss all
      × (fold (λ k (s : ObjectStatus). capped (k + s.shown)) n ss ≡ capped (length all))
  gathered [] each n gs e = (gs, λ g i. i, λ s g i. absurd (not_Contains-nil s i), e)
  gathered (s ∷ ss) each n gs e =
      let count = (each s (Contains-cons_head s ss)).shown in
      let more = gs ++ count.groups in
      let next : capped (n + s.shown) ≡ capped (length more) = capped_sum (length gs)
      (length count.groups) n s.shown e count.is ∙ ap capped (sym (length-append gs count.groups))
      in
      let rest = gathered ss (λ t i. each t (Contains-cons_tail s ss t i)) (capped (n + s.shown))
      more next in (
        rest.0,
        λ g i. rest.1 g (Contains-append_left gs count.groups g i),
        λ t g i on v. elim (Contains-cons_cases s ss t i) [
          | inl same ↦ rest.1 g (Contains-append_right gs count.groups g
              ((count.all.exactly g).1 (on ∙ ap (λ (z : ObjectStatus). z.object) same, v)))
          | inr j ↦ rest.2 t g j on v
        ],
        rest.3,
      )

  abbrev group_of_item : Placed AnyShape → Group
  group_of_item i = record { object = i.key.object; ops = i.key.ops }

  module _ (valid : IsValid h) (items : List (Placed AnyShape)) (ranked : AreRanked h items) where
    -- items with one group are one item
    one_item : (i j : Placed AnyShape) → Contains items i → Contains items j
        → group_of_item i ≡ group_of_item j → i ≡ j
    one_item i j c d e =
        let u = (ranked.exactly i).1 c in
        let v = (ranked.exactly j).1 d in
        let at_i : group_of u.version ≡ group_of_item i = ap group_of_item (sym u.placed) in
        let at_j : group_of v.version ≡ group_of_item j = ap group_of_item (sym v.placed) in
        let same : group_of u.version ≡ group_of v.version = at_i ∙ (e ∙ sym at_j) in
        let one = one_of_group h valid u.version v.version u.visible.version v.visible.version
        (ap (λ (g : Group). g.object) same) (ap (λ (g : Group). g.ops) same) in
        u.placed ∙ (ap placed_version one ∙ sym v.placed)

    -- no item stands twice
    items_once : AllPairs (λ i j. i ≢ j) items
    items_once a b d l m e =
        let i = get_or items a d in
        let j = get_or items b d in
        let falls : IsAbove i.key j.key = ranked.falling a b d l m in
        let same : IsAbove i.key i.key = subst (λ (z : Placed AnyShape). IsAbove i.key z.key)
        (sym e) falls in
        above_one_way i.key i.key same same

    groups_once : AllPairs (λ g k. g ≢ k) (map group_of_item items)
    groups_once = AllPairs-map group_of_item items one_item items_once

    listed : (ss : List ObjectStatus) → AreStatuses h ss → (all : List Group) → HoldsAll ss all
        → (g : Group) → Contains (map group_of_item items) g → Contains all g
    listed ss are all holds g c =
        let w = Contains-map_from group_of_item items g c in
        let u = (ranked.exactly w.0).1 w.1 in
        let shown : IsVisibleGroup h g = record {
          version = u.version;
          visible = u.visible;
          group = ap group_of_item (sym u.placed) ∙ sym w.2;
        } in
        let kind = version_kind h valid u.version.key.object u.version.key.ops
        u.visible.version.version in
        let made : IsMade h u.version.key.object = record { kind = kind.0; made = kind.1 } in
        let told = Contains-map_from (λ (s : ObjectStatus). s.object.0) ss u.version.key.object.0
        (are.all u.version.key.object made) in
        let on : g.object ≡ told.0.object = sym (ap (λ (k : Group). k.object) shown.group)
        ∙ same_object u.version.key.object told.0.object told.2 in
        holds told.0 g told.1 on shown

-- ---- the state

clean_told : (b : Bool) → Clean ≡ cond b Clean Open → b ≡ true
clean_told true e = refl
clean_told false e = absurd cc

third : (a b c : Bool) → a && b && c ≡ true → c ≡ true
third true true true e = refl
third true true false e = absurd cc
third true false c e = absurd cc
third false b c e = absurd cc

-- WHAT IS CLEAN has at most 1,000 visible versions
pub clean_few : (n : Notation) (h waiting : List Op) (text : List ℕ) → IsValid h
    → TellsStatus n h waiting text Clean → ¬ (HasMoreVisible h 1000)
clean_few n h waiting text valid t more =
    let ss = t.objects in
    let g = gathered h ss t.statuses.each 0 [] refl in
    let clean = clean_told (are_clean waiting ss) t.state_is in
    let small : shown_in ss ≤ 1000 = leb-true (shown_in ss) 1000
    (third (is_none waiting) (list_all is_clean ss) (nat_le (shown_in ss) 1000) clean) in
    let sum : shown_in ss ≡ capped (length g.0) = g.3 in
    let bound = within (length g.0) (omega (arith, small, sum)) in
    let long = no_longer (map (group_of_item h) more.items) g.0
    (groups_once h valid more.items more.ranked)
    (listed h valid more.items more.ranked ss t.statuses g.0 g.2) in
    let same = length-map more.items (group_of_item h) in
    let above = more.many in
    absurd (omega (arith, bound, long, same, above))
