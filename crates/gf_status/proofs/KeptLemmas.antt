-- The statuses that are kept: one is found, forgotten or put, and at the end all are there.
use Rattle.std.proofs.Common.{◌≡◌, ◌≢◌, ℕ, suc, ◌+◌, ◌<◌, ◌≤◌, List, [], ◌∷◌, ◌++◌, length, take}
use Rattle.std.proofs.Common.{drop, get_or, refl, sym, subst, ap, ◌∙◌, inl, inr, arith}
use Rattle.std.specs.Prelude.{◌⊎◌, AllPairs, Contains, IfErr, IfOk, Ok, Err, Result}
use Rattle.std.specs.declared.cmp.Ordering.{Ordering}
use Rattle.std.specs.declared.cmp.Ordering.TheVariants.{Less, Equal, Greater}
use Rattle.std.specs.List.{insert, remove}
use Rattle.std.specs.List.Sorted.{IsBinarySearchResult, IsNonDecreasingBy, IsSearchInRange}
use Rattle.std.specs.List.Sorted.{IsStrictlySortedBy}
use Rattle.std.specs.Ordering.{ordering_index, ordering_reverse}
use Rattle.std.proofs.lemmas.Bool.{cases_eq, cases_lt}
use Rattle.std.proofs.lemmas.Cmp.{tied_itself}
use Rattle.std.proofs.lemmas.List.{get_or-drop, get_or-map, get_or-take, length-drop, length-map}
use Rattle.std.proofs.lemmas.List.{length-take, take-append-drop}
use Rattle.std.proofs.lemmas.List.Elements.{Contains-append_cases, Contains-append_left}
use Rattle.std.proofs.lemmas.List.Elements.{Contains-append_right, Contains-get_or}
use Rattle.std.proofs.lemmas.List.Elements.{Contains-push_cases}
use Rattle.std.proofs.lemmas.List.Kept.{AllPairs-cons}
use Rattle.std.proofs.lemmas.List.Quantifiers.{all_pairs_remove}
use Rattle.std.proofs.lemmas.Map.Keys.{sorted_from_all_adjacent}
use Rattle.gf_base.proofs.ListLemmas.{Contains-cons_cases, Contains-cons_head, Contains-cons_tail}
use Rattle.gf_base.proofs.ListLemmas.{Contains-map, Contains-map_from}
use Rattle.gf_base.proofs.PairLemmas.{AllPairs-append}
use Rattle.gf_ops.specs.declared.op.Op.{Op}
use Rattle.gf_ops.specs.declared.op.OpId.{OpId}
use Rattle.gf_ops.specs.declared.op.ObjectId.{ObjectId}
use Rattle.gf_ops.specs.Attribute.{object_of}
use Rattle.gf_ops.specs.OperationOrder.{id_cmp}
use Rattle.gf_ops.specs.ValidHistory.{IsValid}
use Rattle.gf_ops.proofs.IdLemmas.{id_cmp_exact, id_cmp_total}
use Rattle.gf_groups.specs.Versions.{IsMade}
use Rattle.gf_kept.proofs.SameOnLemmas.{same_beside}
use Rattle.gf_status.specs.declared.objects.ObjectStatus.{ObjectStatus}
use Rattle.gf_status.specs.KeptStatuses.{AreKept, IsBefore}
use Rattle.gf_status.specs.ObjectStatuses.{AreStatuses, IsObjectStatus, told_ids}
use Rattle.gf_status.specs.StatusPlaces.{IsFoundAt, IsMissingAt}
use Rattle.gf_status.proofs.SameStatusLemmas.{status_too}

-- ---- ids in order

turned : (i j : OpId) → id_cmp i j ≡ Less → id_cmp j i ≡ Greater
turned i j e = id_cmp_total.antisymm j i ∙ ap ordering_reverse e

turned_back : (i j : OpId) → id_cmp i j ≡ Greater → id_cmp j i ≡ Less
turned_back i j e = id_cmp_total.antisymm j i ∙ ap ordering_reverse e

-- what is before or behind o is not o
apart : (i j : OpId) → (id_cmp i j ≡ Less) ⊎ (id_cmp i j ≡ Greater) → i ≢ j
apart i j s e = let tied : id_cmp i j ≡ Equal = subst (λ k. id_cmp i k ≡ Equal) e
    (tied_itself id_cmp_total i) in elim s [ inl l ↦ cc | inr g ↦ cc ]

-- the answers of a search for k grow
index_grows : (i j k : OpId) → id_cmp i j ≡ Less
    → ordering_index (id_cmp i k) ≤ ordering_index (id_cmp j k)
index_grows i j k below = by_answer (id_cmp i k) refl
  where
    greater : id_cmp j k ≡ Greater → (o : Ordering) → ordering_index o ≤ ordering_index (id_cmp j k)
    greater e Less = rw e (omega arith)
    greater e Equal = rw e (omega arith)
    greater e Greater = rw e (omega arith)

    by_answer : (o : Ordering) → id_cmp i k ≡ o → ordering_index o ≤ ordering_index (id_cmp j k)
    by_answer Less e = omega arith
    by_answer Equal e = greater (turned k j (subst (λ z. id_cmp z j ≡ Less) (id_cmp_exact i k e)
        below)) Equal
    by_answer Greater e = greater (turned k j (id_cmp_total.trans k i j (turned_back i k e) below))
        Greater

-- ---- where a status stands

answers_grow : (ss : List ObjectStatus) (o : ObjectId) → AllPairs IsBefore ss
    → IsNonDecreasingBy (λ (s : ObjectStatus). ordering_index (id_cmp s.object.0 o.0)) ss
answers_grow ss o rising i j d le inside = elim (cases_eq i j) [
  | inl e ↦ subst (λ k. ordering_index (id_cmp (get_or ss i d).object.0 o.0)
      ≤ ordering_index (id_cmp (get_or ss k d).object.0 o.0)) e (omega arith)
  | inr n ↦ index_grows (get_or ss i d).object.0 (get_or ss j d).object.0 o.0
      (rising i j d (omega arith) inside)
]

module _ (ss : List ObjectStatus) (o : ObjectId) where
  pub found_at : (r : Result ℕ ℕ) → IsSearchInRange r (length ss)
      → IsBinarySearchResult (λ (s : ObjectStatus). id_cmp s.object.0 o.0) ss r
      → IfOk r (IsFoundAt ss o)
  found_at (Ok i) range found = record {
    inside = range;
    is = λ d. let e = id_cmp_exact (get_or ss i d).object.0 o.0 (found d) in
        λ n. record { 0 = e n };
  }
  found_at (Err i) range found = tt

  pub missing_at : (r : Result ℕ ℕ) → IsSearchInRange r (length ss)
      → IsBinarySearchResult (λ (s : ObjectStatus). id_cmp s.object.0 o.0) ss r
      → IfErr r (λ i. AllPairs IsBefore ss → IsMissingAt ss o i)
  missing_at (Ok i) range found = tt
  missing_at (Err i) range found = λ rising. let parts = found (answers_grow ss o rising) in
      record {
        within = range;
        front = λ k d l. parts.0 k d (omega arith) l;
        back = λ k d l m. parts.1 k d l m;
      }

-- ---- elements of parts

in_front : {X : Type 0} (xs : List X) (i : ℕ) (x : X) → Contains (take i xs) x
    → (k : ℕ) × (k < i) × (k < length xs) × (get_or xs k x ≡ x)
in_front xs i x (k, m, e) =
    let l = length-take i xs in (
      k,
      omega (arith, m, l),
      omega (arith, m, l),
      sym (get_or-take i xs k x (omega (arith, m, l)))
          ∙ e,
    )

in_back : {X : Type 0} (xs : List X) (i : ℕ) (x : X) → Contains (drop i xs) x
    → (k : ℕ) × (i ≤ k) × (k < length xs) × (get_or xs k x ≡ x)
in_back xs i x (k, m, e) =
    let l = length-drop i xs in
    (i + k, omega arith, omega (arith, m, l), sym (get_or-drop i xs k x) ∙ e)

-- ---- one is forgotten

left_apart : (ss : List ObjectStatus) (o : ObjectId) (i : ℕ) → AllPairs IsBefore ss
    → IsFoundAt ss o i → (s : ObjectStatus) → Contains (remove ss i) s
    → Contains ss s × (s.object ≢ o)
left_apart ss o i rising found s c = elim (Contains-append_cases (take i ss) (drop (suc i) ss) s
    c) [
      | inl d ↦
          let (k, before, inside, e) = in_front ss i s d in
          let less = rising k i s before found.inside in
          let other : id_cmp s.object.0 o.0 ≡ Less = subst (λ p. id_cmp s.object.0 p.0 ≡ Less)
          (found.is s) (subst (λ (z : ObjectStatus). id_cmp z.object.0 (get_or ss i s).object.0 ≡ Less)
          e less) in
          ((k, inside, e), λ same. apart s.object.0 o.0 (inl other) (ap (λ (p : ObjectId). p.0) same))
      | inr d ↦
          let (k, behind, inside, e) = in_back ss (suc i) s d in
          let less = rising i k s (omega arith) inside in
          let other : id_cmp o.0 s.object.0 ≡ Less = subst (λ p. id_cmp p.0 s.object.0 ≡ Less)
          (found.is s) (subst (λ (z : ObjectStatus). id_cmp (get_or ss i s).object.0 z.object.0 ≡ Less)
          e less) in (
            (k, inside, e),
            λ same. apart o.0 s.object.0 (inl other)
                (ap (λ (p : ObjectId). p.0) (sym same)),
          )
    ]

missing_apart : (ss : List ObjectStatus) (o : ObjectId) (i : ℕ) → IsMissingAt ss o i
    → (s : ObjectStatus) → Contains ss s → s.object ≢ o
missing_apart ss o i missing s (k, inside, e) same =
    let named : (get_or ss k s).object.0 ≡ o.0 = ap (λ (z : ObjectStatus). z.object.0) e
    ∙ ap (λ (p : ObjectId). p.0) same in
    elim (cases_lt k i) [
      | inl l ↦ apart (get_or ss k s).object.0 o.0 (inl (missing.front k s l)) named
      | inr g ↦ apart (get_or ss k s).object.0 o.0 (inr (missing.back k s g inside)) named
    ]

module _ (h : List Op) (a : Op) (valid : IsValid h) (too : IsValid (h ++ a ∷ []))
    (o : ObjectId) (on : object_of a ≡ o) (ss : List ObjectStatus) (kept : AreKept h ss) where
  stays_kept : (s : ObjectStatus) → Contains ss s → s.object ≢ o
      → IsObjectStatus (h ++ a ∷ []) s
  stays_kept s c off = status_too h (h ++ a ∷ []) valid too s
      (same_beside h a s.object (λ e. off (sym e ∙ on))) (kept.each s c)

  pub kept_without : (i : ℕ) → IsFoundAt ss o i → AreKept (h ++ a ∷ []) (remove ss i)
  kept_without i found = record {
    each = λ s c. let x = left_apart ss o i kept.rising found s c in stays_kept s x.0 x.1;
    rising = all_pairs_remove IsBefore ss i found.inside kept.rising;
  }

  pub kept_beside : (i : ℕ) → IsMissingAt ss o i → AreKept (h ++ a ∷ []) ss
  kept_beside i missing = record {
    each = λ s c. stays_kept s c (missing_apart ss o i missing s c);
    rising = kept.rising;
  }

-- ---- one is put

module _ (h : List Op) (ss : List ObjectStatus) (kept : AreKept h ss) (o : ObjectId) (i : ℕ)
    (missing : IsMissingAt ss o i) (s : ObjectStatus) (named : s.object ≡ o) where
  put_cases : (t : ObjectStatus) → Contains (insert ss i s) t → (t ≡ s) ⊎ Contains ss t
  put_cases t c = elim (Contains-append_cases (take i ss) (s ∷ drop i ss) t c) [
    | inl d ↦ let (k, l, inside, e) = in_front ss i t d in inr (k, inside, e)
    | inr d ↦ elim (Contains-cons_cases s (drop i ss) t d) [
      | inl e ↦ inl e
      | inr b ↦ let (k, l, inside, e) = in_back ss i t b in inr (k, inside, e)
    ]
  ]

  front_before : (t : ObjectStatus) → Contains (take i ss) t → IsBefore t s
  front_before t c =
      let (k, l, inside, e) = in_front ss i t c in
      subst (λ p. id_cmp t.object.0 p.0 ≡ Less) (sym named)
      (subst (λ (z : ObjectStatus). id_cmp z.object.0 o.0 ≡ Less) e (missing.front k t l))

  back_behind : (t : ObjectStatus) → Contains (drop i ss) t → IsBefore s t
  back_behind t c =
      let (k, l, inside, e) = in_back ss i t c in
      subst (λ p. id_cmp p.0 t.object.0 ≡ Less) (sym named)
      (turned_back t.object.0 o.0
      (subst (λ (z : ObjectStatus). id_cmp z.object.0 o.0 ≡ Greater) e
      (missing.back k t l inside)))

  pairs_front : AllPairs IsBefore (take i ss)
  pairs_front j k d l m =
      let n = length-take i ss in
      rw (get_or-take i ss j d (omega (arith, l, m, n)), get_or-take i ss k d (omega (arith, m, n)))
      (kept.rising j k d l (omega (arith, m, n)))

  pairs_back : AllPairs IsBefore (drop i ss)
  pairs_back j k d l m =
      let n = length-drop i ss in
      rw (get_or-drop i ss j d, get_or-drop i ss k d)
      (kept.rising (i + j) (i + k) d (omega arith) (omega (arith, m, n)))

  pub kept_with : IsObjectStatus h s → AreKept h (insert ss i s)
  kept_with is = record {
    each = λ t c. elim (put_cases t c) [
      | inl e ↦ subst (IsObjectStatus h) (sym e) is
      | inr d ↦ kept.each t d
    ];
    rising = AllPairs-append IsBefore (take i ss) (s ∷ drop i ss) pairs_front
        (AllPairs-cons IsBefore s (drop i ss)
        (λ k d l. back_behind (get_or (drop i ss) k d) (Contains-get_or (drop i ss) k d l))
        pairs_back)
        (λ t u c d. elim (Contains-cons_cases s (drop i ss) u d) [
          | inl e ↦ subst (IsBefore t) (sym e) (front_before t c)
          | inr b ↦ id_cmp_total.trans t.object.0 s.object.0 u.object.0 (front_before t c)
              (back_behind u b)
        ]);
  }

-- ---- which objects have a status

put_has : {X : Type 0} (xs : List X) (i : ℕ) (y : X) → Contains (insert xs i y) y
put_has xs i y = Contains-append_right (take i xs) (y ∷ drop i xs) y
    (Contains-cons_head y (drop i xs))

put_stays : {X : Type 0} (xs : List X) (i : ℕ) (y x : X) → Contains xs x
    → Contains (insert xs i y) x
put_stays xs i y x c = elim (Contains-append_cases (take i xs) (drop i xs) x
    (subst (λ zs. Contains zs x) (sym (take-append-drop i xs)) c)) [
      | inl d ↦ Contains-append_left (take i xs) (y ∷ drop i xs) x d
      | inr d ↦ Contains-append_right (take i xs) (y ∷ drop i xs) x
          (Contains-cons_tail y (drop i xs) x d)
    ]

pub told_put : (ss : List ObjectStatus) (i : ℕ) (s : ObjectStatus) (o : ObjectId) → s.object ≡ o
    → Contains (told_ids (insert ss i s)) o.0
told_put ss i s o named = subst (λ (p : ObjectId). Contains (told_ids (insert ss i s)) p.0) named
    (Contains-map (λ (z : ObjectStatus). z.object.0) (insert ss i s) s (put_has ss i s))

pub told_stays : (ss : List ObjectStatus) (i : ℕ) (s : ObjectStatus) (j : OpId)
    → Contains (told_ids ss) j → Contains (told_ids (insert ss i s)) j
told_stays ss i s j c =
    let from = Contains-map_from (λ (z : ObjectStatus). z.object.0) ss j c in
    subst (Contains (told_ids (insert ss i s))) (sym from.2)
    (Contains-map (λ (z : ObjectStatus). z.object.0) (insert ss i s) from.0
    (put_stays ss i s from.0 from.1))

pub told_found : (ss : List ObjectStatus) (o : ObjectId) (i : ℕ) → IsFoundAt ss o i
    → Contains (told_ids ss) o.0
told_found [] o i found = let l = found.inside in absurd (omega arith)
told_found (s ∷ ss) o i found = subst (λ (p : ObjectId). Contains (told_ids (s ∷ ss)) p.0)
    (found.is s)
    (Contains-map (λ (z : ObjectStatus). z.object.0) (s ∷ ss) (get_or (s ∷ ss) i s)
    (Contains-get_or (s ∷ ss) i s found.inside))

-- one id more has a status
pub told_more : (ids old new : List OpId) (i : OpId)
    → ((o : ObjectId) → Contains ids o.0 → Contains old o.0)
    → ((o : ObjectId) → Contains old o.0 → Contains new o.0) → Contains new i
    → (o : ObjectId) → Contains (ids ++ i ∷ []) o.0 → Contains new o.0
told_more ids old new i all stays has o there = elim (Contains-push_cases ids i o.0 there) [
  | inl c ↦ stays o (all o c)
  | inr e ↦ subst (Contains new) e has
]

-- ---- all statuses

no_id : OpId
no_id = record { site = 0; seq = 0 }

ids_rise : (ss : List ObjectStatus) → AllPairs IsBefore ss
    → IsStrictlySortedBy id_cmp (told_ids ss)
ids_rise ss rising = sorted_from_all_adjacent id_cmp_total (told_ids ss) no_id (adjacent ss refl)
  where
    adjacent : (rest : List ObjectStatus) → ss ≡ rest → (k : ℕ) → k + 1 < length (told_ids ss)
        → id_cmp (get_or (told_ids ss) k no_id) (get_or (told_ids ss) (k + 1) no_id) ≡ Less
    adjacent [] same k l = let none = ap length same in
        let count = length-map ss (λ (z : ObjectStatus). z.object.0) in absurd (omega arith)
    adjacent (s ∷ rest) same k l =
        let count = length-map ss (λ (z : ObjectStatus). z.object.0) in
        let first = get_or-map (λ (z : ObjectStatus). z.object.0) ss k s no_id (omega arith) in
        let second = get_or-map (λ (z : ObjectStatus). z.object.0) ss (k + 1) s no_id
        (omega arith) in
        rw (first, second) (rising k (k + 1) s (omega arith) (omega arith))

pub all_there : (h : List Op) (ss : List ObjectStatus) → AreKept h ss
    → ((o : ObjectId) → IsMade h o → Contains (told_ids ss) o.0) → AreStatuses h ss
all_there h ss kept all = record {
  each = kept.each;
  all = all;
  rising = ids_rise ss kept.rising;
}
