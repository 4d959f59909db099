-- The index of a history tells the positions with one more operation behind it, too.
use Rattle.std.proofs.Common.{◌≡◌, ◌≢◌, ℕ, ◌+◌, ◌-◌, ◌≤◌, ◌<◌, cond, List, [], ◌∷◌, ◌++◌, length}
use Rattle.std.proofs.Common.{get_or, set, replicate, refl, ap, sym, subst, ◌∙◌, arith, inl, inr}
use Rattle.std.specs.Prelude.{◌⊎◌, Contains, slice_index, nat_eq}
use Rattle.std.proofs.lemmas.Bool.{cases_eq, cases_lt, eq-eqb}
use Rattle.std.proofs.lemmas.Bool.Decides.{eqb_tells}
use Rattle.std.proofs.lemmas.List.{get_or_default, get_or_append_left, get_or-set_same}
use Rattle.std.proofs.lemmas.List.{get_or-set_other, get_or_push, length-set, length-append}
use Rattle.std.proofs.lemmas.List.Elements.{Contains-push_cases}
use Rattle.std.proofs.lemmas.List.Sums.{sum_by-append, sum_by-cons}
use Rattle.gf_ops.specs.declared.op.Op.{Op}
use Rattle.gf_ops.specs.declared.op.OpId.{OpId}
use Rattle.gf_ops.specs.declared.op.Clock.{Clock}
use Rattle.gf_ops.specs.Accepted.{IsAccepted, next}
use Rattle.gf_ops.specs.HistoryIndex.{position, IsIndexed, IsHistory}
use Rattle.gf_ops.specs.Limits.{IsInRange}
use Rattle.gf_ops.specs.OperationOrder.{IsSite, count_of}
use Rattle.gf_ops.proofs.HistoryLemmas.{site_in_range, has_counted}
use Rattle.gf_ops.proofs.ValidityLemmas.{IsValid-push}

-- ---- rows

-- a row of zeros may be added
pub IsHistory-row : (h : List Op) (rows : List (List ℕ)) (counts : Clock) → IsHistory h rows counts
    → IsHistory h (rows ++ replicate 8 0 ∷ []) counts
IsHistory-row h rows counts t =
    let kept : (k : ℕ) → k < length rows → get_or (rows ++ replicate 8 0 ∷ []) k [] ≡ get_or rows k
    [] = λ k l. get_or_append_left rows (replicate 8 0 ∷ []) [] k l in
    let longer : length (rows ++ replicate 8 0 ∷ []) ≡ length rows + 1 = length-append rows
    (replicate 8 0 ∷ []) in
    record {
      accepted = t.accepted;
      valid = t.valid;
      counted = t.counted;
      reached = t.reached;
      wide = λ k l. elim (cases_lt k (length rows)) [
        | inl m ↦ rw (kept k m) (t.wide k m)
        | inr m ↦ rw (get_or_push rows (replicate 8 0) [] k (omega arith)) refl
      ];
      placed = λ i s f c.
          let p = t.placed i s f c in
          let row = p.row in
          let same : position (rows ++ replicate 8 0 ∷ []) i ≡ position rows i = ap
          (λ r. slice_index r (i.site - 1)) (kept (i.seq - 1) row) in
          record {
            row = omega arith;
            op = p.op;
            within = rw same p.within;
            there = rw same p.there;
            id = p.id;
          };
    }

-- the position that was set, and the others
position_same : (rows : List (List ℕ)) (row : List ℕ) (i : OpId) (n : ℕ) → i.seq - 1 < length rows
    → i.site - 1 < length row → position (set rows (i.seq - 1) (set row (i.site - 1) n)) i ≡ n
position_same rows row i n l m = rw (get_or-set_same rows (i.seq - 1) (set row (i.site - 1) n) [] l)
    (get_or-set_same row (i.site - 1) n 0 m)

position_other : (rows : List (List ℕ)) (row : List ℕ) (i j : OpId) (n : ℕ)
    → i.seq - 1 < length rows → row ≡ get_or rows (i.seq - 1) row
    → (j.seq - 1 ≢ i.seq - 1) ⊎ (j.site - 1 ≢ i.site - 1) →
    position (set rows (i.seq - 1) (set row (i.site - 1) n)) j ≡ position rows j
position_other rows row i j n l e d = elim (cases_eq (j.seq - 1) (i.seq - 1)) [
  | inl q ↦
      let told : get_or rows (i.seq - 1) [] ≡ row = get_or_default rows (i.seq - 1) [] row l
      ∙ sym e in
      rw (q, get_or-set_same rows (i.seq - 1) (set row (i.site - 1) n) [] l, told)
      (elim d [
        | inl m ↦ absurd (m q)
        | inr m ↦ get_or-set_other row (i.site - 1) (j.site - 1) n 0 m
      ])
  | inr q ↦ rw (get_or-set_other rows (i.seq - 1) (j.seq - 1) (set row (i.site - 1) n) [] q) refl
]

-- ---- counts

count-push : (h : List Op) (a : Op) (s : ℕ) → count_of (h ++ a ∷ []) s ≡ count_of h s + cond
    (nat_eq a.id.site s) 1 0
count-push h a s =
    let whole = sum_by-append (λ (b : Op). cond (nat_eq b.id.site s) 1 0) h (a ∷ []) in
    let last = sum_by-cons (λ (b : Op). cond (nat_eq b.id.site s) 1 0) a [] in
    omega (arith, whole, last)

count-push_same : (h : List Op) (a : Op) (s : ℕ) → s ≡ a.id.site
    → count_of (h ++ a ∷ []) s ≡ count_of h s + 1
count-push_same h a s e = let c = count-push h a s in rw (eq-eqb a.id.site s (sym e)) at c

count-push_other : (h : List Op) (a : Op) (s : ℕ) → s ≢ a.id.site
    → count_of (h ++ a ∷ []) s ≡ count_of h s
count-push_other h a s n = elim (eqb_tells a.id.site s) [
  | inl p ↦ absurd (n (sym p.1))
  | inr p ↦ let c = count-push h a s in let d : count_of (h ++ a ∷ []) s ≡ count_of h s + 0 = rw p.0
      at c in omega arith
]

-- ---- one more operation

module _ (h : List Op) (rows : List (List ℕ)) (counts : Clock) (a : Op) (row : List ℕ)
    (t : IsHistory h rows counts) (r : IsInRange a) (p : IsAccepted h a)
    (eight : length counts.0 ≡ 8) (l : a.id.seq - 1 < length rows)
    (e : row ≡ get_or rows (a.id.seq - 1) row) where
  abbrev grown : List (List ℕ)
  grown = set rows (a.id.seq - 1) (set row (a.id.site - 1) (length h))

  row_told : get_or rows (a.id.seq - 1) [] ≡ row
  row_told = get_or_default rows (a.id.seq - 1) [] row l ∙ sym e

  row_wide : length row ≡ 8
  row_wide = rw (sym row_told) (t.wide (a.id.seq - 1) l)

  -- the operation is at the end
  last_placed : (i : OpId) → i ≡ a.id → IsIndexed (h ++ a ∷ []) grown i
  last_placed i q =
      let site = site_in_range a r in let most = site.1 in let least = site.0 in let w = row_wide in
      let at : position grown a.id ≡ length h = position_same rows row a.id (length h) l
      (omega arith) in
      let longer = length-append h (a ∷ []) in
      let wider = length-set rows (a.id.seq - 1) (set row (a.id.site - 1) (length h)) in
      subst (IsIndexed (h ++ a ∷ []) grown) (sym q) (record {
        row = omega arith;
        op = a;
        within = rw at (omega arith);
        there = rw at (get_or_push h a a (length h) refl);
        id = refl;
      })

  -- and the others stay
  still_placed : (i : OpId) → IsIndexed h rows i
      → (i.seq - 1 ≢ a.id.seq - 1) ⊎ (i.site - 1 ≢ a.id.site - 1) → IsIndexed (h ++ a ∷ []) grown i
  still_placed i q d =
      let at : position grown i ≡ position rows i = position_other rows row a.id i (length h) l e d
      in
      let longer = length-append h (a ∷ []) in
      let wider = length-set rows (a.id.seq - 1) (set row (a.id.site - 1) (length h)) in
      let inside = q.row in let within = q.within in
      record {
        row = omega arith;
        op = q.op;
        within = rw at (omega arith);
        there = rw at (get_or_append_left h (a ∷ []) q.op (position rows i) within ∙ q.there);
        id = q.id;
      }

  all_placed : (i : OpId) → IsSite i.site → 1 ≤ i.seq → i.seq ≤ count_of (h ++ a ∷ []) i.site
      → IsIndexed (h ++ a ∷ []) grown i
  all_placed i s f c =
      let site = site_in_range a r in let least = site.0 in let low = s.0 in
      let seq = p.next.numbered.seq in
      elim (cases_eq i.site a.id.site) [
        | inl q ↦ elim (cases_eq i.seq a.id.seq) [
          | inl u ↦ last_placed i (λ j. record { site = q j; seq = u j })
          | inr u ↦
              let n = rw (count-push_same h a i.site q) at c in
              let m : a.id.seq ≡ count_of h i.site + 1 = rw q seq in
              still_placed i (t.placed i s f (omega arith)) (inl (λ v. u (omega arith)))
        ]
        | inr q ↦
            let n = rw (count-push_other h a i.site q) at c in
            still_placed i (t.placed i s f n) (inr (λ v. q (omega arith)))
      ]

  -- the clock counts it
  all_counted : (s : ℕ) → IsSite s → slice_index (set counts.0 (a.id.site - 1) a.id.seq)
      (s - 1) ≡ count_of (h ++ a ∷ []) s
  all_counted s i =
      let site = site_in_range a r in let least = site.0 in let most = site.1 in let low = i.0 in
      elim (cases_eq s a.id.site) [
        | inl q ↦ rw (
          q,
          get_or-set_same counts.0 (a.id.site - 1) a.id.seq 0 (omega arith),
          count-push_same h a a.id.site refl,
        ) p.next.numbered.seq
        | inr q ↦ rw (
          get_or-set_other counts.0 (a.id.site - 1) (s - 1) a.id.seq 0 (λ v. q (omega arith)),
          count-push_other h a s q,
        ) (t.counted s i)
      ]

  all_reached : (b : Op) → Contains (h ++ a ∷ []) b → b.id.seq ≤ count_of (h ++ a ∷ []) b.id.site
  all_reached b m = elim (Contains-push_cases h a b m) [
    | inl k ↦ let n = t.reached b k in let c = count-push h a b.id.site in omega arith
    | inr q ↦ subst (λ (x : Op). x.id.seq ≤ count_of (h ++ a ∷ []) x.id.site) q
        (let c = count-push_same h a a.id.site refl in let n = p.next.numbered.seq in omega arith)
  ]

  all_wide : (k : ℕ) → k < length grown → length (get_or grown k []) ≡ 8
  all_wide k m =
      let wider = length-set rows (a.id.seq - 1) (set row (a.id.site - 1) (length h)) in
      elim (cases_eq k (a.id.seq - 1)) [
        | inl q ↦ rw (
          q,
          get_or-set_same rows (a.id.seq - 1) (set row (a.id.site - 1) (length h)) [] l,
          length-set row (a.id.site - 1) (length h),
        ) row_wide
        | inr q ↦ rw (get_or-set_other rows (a.id.seq - 1) k (set row (a.id.site - 1) (length h)) []
            q) (t.wide k (omega arith))
      ]

  -- the next operation has a new id
  is_new : (b : Op) → Contains h b → b.id ≢ a.id
  is_new b m q =
      let n = t.reached b m in let s = p.next.numbered.seq in
      let site : b.id.site ≡ a.id.site = ap (λ (i : OpId). i.site) q in
      let seq : b.id.seq ≡ a.id.seq = ap (λ (i : OpId). i.seq) q in
      let k = rw site at n in absurd (omega arith)

  pub IsHistory-push : IsHistory (h ++ a ∷ []) grown
      (record { 0 = set counts.0 (a.id.site - 1) a.id.seq })
  IsHistory-push = record {
    accepted = next t.accepted p;
    valid = IsValid-push h a t.valid r p.next p.suited p.aimed is_new (has_counted h rows counts t);
    counted = all_counted;
    reached = all_reached;
    wide = all_wide;
    placed = all_placed;
  }

-- an accepted operation has a row, or the next
pub rows_reach : (h : List Op) (rows : List (List ℕ)) (counts : Clock) (s : ℕ)
    → IsHistory h rows counts → IsSite s → count_of h s ≤ length rows
rows_reach h rows counts s t i = elim (cases_lt (count_of h s) 1) [
  | inl l ↦ omega arith
  | inr l ↦ let r = (t.placed (record { site = s; seq = count_of h s }) i l (omega arith)).row in
      omega arith
]
