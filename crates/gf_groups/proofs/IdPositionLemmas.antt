-- The ids of the operations at positions of a valid history.
use Rattle.std.proofs.Common.{◌≡◌, ◌≢◌, ℕ, List, [], ◌∷◌, inl, inr, refl, ap, sym, ◌∙◌, subst}
use Rattle.std.proofs.Common.{arith}
use Rattle.std.specs.Prelude.{◌↔◌, AllPairs, Contains, Option, Some, None, option_map, slice_get}
use Rattle.std.specs.List.{cons_option}
use Rattle.std.specs.List.Sorted.{IsPermutation, IsSorted, IsStrictlySortedBy}
use Rattle.std.specs.Ordering.{nat_cmp}
use Rattle.std.proofs.lemmas.Bool.{cases_order}
use Rattle.std.proofs.lemmas.Cmp.{nat_cmp_total}
use Rattle.std.proofs.lemmas.List.Elements.{All-weaker, All-contains_itself}
use Rattle.std.proofs.lemmas.List.Kept.{AllPairs-cons}
use Rattle.std.proofs.lemmas.Map.Keys.{sorted_tail}
use Rattle.std.proofs.lemmas.Option.{slice_get_within, get_or_from_slice_get}
use Rattle.gf_ops.specs.declared.op.Op.{Op}
use Rattle.gf_ops.specs.declared.op.OpId.{OpId}
use Rattle.gf_ops.specs.OperationOrder.{id_cmp}
use Rattle.gf_ops.specs.ValidHistory.{IsValid}
use Rattle.gf_base.proofs.ListLemmas.{Contains-cons_cases, Contains-cons_head, Contains-cons_tail}
use Rattle.gf_base.proofs.ListLemmas.{not_Contains-nil}
use Rattle.gf_groups.specs.GroupedPositions.{ids_at, rising_ids}
use Rattle.gf_maximal.specs.LargestSets.{IsRising}
use Rattle.gf_ops.proofs.IdLemmas.{id_cmp_total, id_cmp_exact}
use Rattle.gf_base.proofs.RisingLemmas.{below_from_less, below_tail, rising_nil}
use Rattle.gf_base.proofs.InsertLemmas.{inserted_all, holds_all}
use Rattle.gf_groups.proofs.SortedLemmas.{same_sorted}

-- j is the id of the operation at a position of g
pub record IsIdAt (h : List Op) (g : List ℕ) (j : OpId) : Type 0 where
  pub position : ℕ
  pub op : Op
  pub contained : Contains g position
  pub at : slice_get h position ≡ Some op
  pub id : op.id ≡ j

module _ (h : List Op) where
  later : (k : ℕ) (g : List ℕ) (j : OpId) → IsIdAt h g j → IsIdAt h (k ∷ g) j
  later k g j t = record {
    position = t.position;
    op = t.op;
    contained = Contains-cons_tail k g t.position t.contained;
    at = t.at;
    id = t.id;
  }

  from_cons : (r : Option Op) (k : ℕ) (g : List ℕ) (j : OpId) → slice_get h k ≡ r
      → (Contains (ids_at h g) j → IsIdAt h g j) →
      Contains (cons_option (option_map (λ (a : Op). a.id) r) (ids_at h g)) j → IsIdAt h (k ∷ g) j
  from_cons (Some a) k g j e f c = elim (Contains-cons_cases a.id (ids_at h g) j c) [
    | inl d ↦ record {
      position = k;
      op = a;
      contained = Contains-cons_head k g;
      at = e;
      id = sym d;
    }
    | inr i ↦ later k g j (f i)
  ]
  from_cons None k g j e f c = later k g j (f c)

  ids_from : (g : List ℕ) (j : OpId) → Contains (ids_at h g) j → IsIdAt h g j
  ids_from [] j c = absurd (not_Contains-nil j c)
  ids_from (k ∷ g) j c = from_cons (slice_get h k) k g j refl (ids_from g j) c

  to_cons : (r : Option OpId) (ids : List OpId) (j : OpId) → Contains ids j
      → Contains (cons_option r ids) j
  to_cons (Some i) ids j c = Contains-cons_tail i ids j c
  to_cons None ids j c = c

  ids_to : (g : List ℕ) (k : ℕ) (a : Op) → Contains g k → slice_get h k ≡ Some a
      → Contains (ids_at h g) a.id
  ids_to [] k a c e = absurd (not_Contains-nil k c)
  ids_to (i ∷ g) k a c e = elim (Contains-cons_cases i g k c) [
    | inl d ↦
        let at : slice_get h i ≡ Some a = subst (λ n. slice_get h n ≡ Some a) d e in
        subst (λ (r : Option Op). Contains (cons_option (option_map (λ (b : Op). b.id) r)
        (ids_at h g)) a.id) (sym at) (Contains-cons_head a.id (ids_at h g))
    | inr m ↦ to_cons (option_map (λ (b : Op). b.id) (slice_get h i)) (ids_at h g) a.id
        (ids_to g k a m e)
  ]

  pub Contains-rising_ids : (g : List ℕ) (j : OpId) → Contains (rising_ids h g) j ↔ IsIdAt h g j
  Contains-rising_ids g j = (
    λ c. elim ((holds_all id_cmp id_cmp_total id_cmp_exact (ids_at h g) [] j).0 c) [
      | inl n ↦ absurd (not_Contains-nil j n)
      | inr i ↦ ids_from g j i
    ],
    λ t. (holds_all id_cmp id_cmp_total id_cmp_exact (ids_at h g) [] j).1
        (inr (subst (Contains (ids_at h g)) t.id (ids_to g t.position t.op t.contained t.at))),
  )

  pub rising_ids-rising : (g : List ℕ) → IsStrictlySortedBy id_cmp (rising_ids h g)
  rising_ids-rising g = inserted_all id_cmp id_cmp_total id_cmp_exact (ids_at h g) []
      (rising_nil id_cmp id_cmp_total)

  module _ (valid : IsValid h) where
    -- an id has one position
    pub same_position : (i j : ℕ) (a b : Op) → slice_get h i ≡ Some a → slice_get h j ≡ Some b
        → a.id ≡ b.id → i ≡ j
    same_position i j a b e f s =
        let p = ap (λ (x : Op). x.id) (get_or_from_slice_get h i a a e) in
        let q = ap (λ (x : Op). x.id) (get_or_from_slice_get h j b a f) in
        elim (cases_order i j) [
          | inl k ↦ k
          | inr k ↦ elim k [
            | inl n ↦ absurd (valid.distinct i j a n (slice_get_within h j b f) (p ∙ (s ∙ sym q)))
            | inr n ↦ absurd (valid.distinct j i a n (slice_get_within h i a e)
                (q ∙ (sym s ∙ sym p)))
          ]
        ]

    head_apart : (k : ℕ) (g : List ℕ) (a : Op) → IsRising (k ∷ g) → slice_get h k ≡ Some a
        → (j : OpId) → Contains (ids_at h g) j → a.id ≢ j
    head_apart k g a form e j c d =
        let t = ids_from g j c in
        let same = same_position k t.position a t.op e t.at (d ∙ sym t.id) in
        let l = below_from_less k t.position (below_tail nat_cmp nat_cmp_total k g form t.position
        t.contained) in absurd (omega arith)

    apart_cons : (r : Option Op) (k : ℕ) (g : List ℕ) → IsRising (k ∷ g) → slice_get h k ≡ r
        → AllPairs (λ i j. i ≢ j) (ids_at h g) →
        AllPairs (λ i j. i ≢ j) (cons_option (option_map (λ (a : Op). a.id) r) (ids_at h g))
    apart_cons (Some a) k g form e rest =
        AllPairs-cons (λ i j. i ≢ j) a.id (ids_at h g)
        (All-weaker (Contains (ids_at h g)) (λ j. a.id ≢ j) (λ j c. head_apart k g a form e j c)
        (ids_at h g) (All-contains_itself (ids_at h g))) rest
    apart_cons None k g form e rest = rest

    ids_apart : (g : List ℕ) → IsRising g → AllPairs (λ i j. i ≢ j) (ids_at h g)
    ids_apart [] form = λ i j d l m. absurd (omega arith)
    ids_apart (k ∷ g) form = apart_cons (slice_get h k) k g form refl
        (ids_apart g (sorted_tail nat_cmp k g form))

    -- the ids at rising positions, sorted
    pub sorted_ids : (g : List ℕ) (ids : List OpId) → IsRising g → IsPermutation (ids_at h g) ids
        → IsSorted id_cmp ids → ids ≡ rising_ids h g
    sorted_ids g ids form moved sorted = same_sorted id_cmp id_cmp_total id_cmp_exact (ids_at h g)
        ids (ids_apart g form) moved sorted
