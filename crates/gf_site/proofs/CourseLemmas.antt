-- What holds of operations each of which was accepted behind those before it, and of courses.
use Rattle.std.proofs.Common.{◌≡◌, ◌≢◌, ◌∙◌, ℕ, ◌+◌, ◌≤◌, List, [], ◌∷◌, ◌++◌, length, get_or, inl}
use Rattle.std.proofs.Common.{inr, sym, ap, subst, arith}
use Rattle.std.specs.Prelude.{AllPairs, Contains}
use Rattle.std.proofs.lemmas.Bool.{cases_lt}
use Rattle.std.proofs.lemmas.List.{get_or_append_left, length_push}
use Rattle.std.proofs.lemmas.List.Elements.{Contains-append_left, Contains-push}
use Rattle.std.proofs.lemmas.List.Elements.{Contains-push_cases}
use Rattle.std.proofs.Math.Seq.{get_or-append_seam}
use Rattle.gf_ops.specs.declared.op.Op.{Op}
use Rattle.gf_ops.specs.declared.op.OpId.{OpId}
use Rattle.gf_ops.specs.OperationOrder.{IsSite, entry, count_of}
use Rattle.gf_ops.specs.Accepted.{IsAccepted, AreAccepted, none, next}
use Rattle.gf_ops.specs.ValidHistory.{IsValid}
use Rattle.gf_ops.proofs.HistoryLemmas.{seq_in_range, site_in_range}
use Rattle.gf_causal.specs.Ready.{IsReady}
use Rattle.gf_causal.specs.DeliveredPart.{AreReady, none as ready_none, next as ready_next}
use Rattle.gf_causal.proofs.CourseLemmas.{has_counted, number_counted, same_id}
use Rattle.gf_causal.proofs.PartLemmas.{part_accepts}
use Rattle.gf_site.specs.Course.{IsCourse, none as course_none, next as course_next}

-- what is accepted is ready
pub accepted_ready : (h : List Op) (a : Op) → IsAccepted h a → IsReady h a
accepted_ready h a c = record { seq = c.next.numbered.seq; others = λ s i d. c.next.known s i }

pub all_ready : {h : List Op} → AreAccepted h → AreReady h
all_ready none = ready_none
all_ready (next {h} {a} r c) = ready_next (all_ready r) (accepted_ready h a c)

module _ (h : List Op) (run : AreAccepted h) (valid : IsValid h) where
  -- a site has made no more than 10,000 operations
  pub count_most : (s : ℕ) → count_of h s ≤ 10000
  count_most s = elim (cases_lt 0 (count_of h s)) [
    | inl m ↦
        let t = has_counted (all_ready run) (record { site = s; seq = count_of h s }) m
        (omega arith) in
        let l = (seq_in_range t.op (valid.in_range t.op t.contained)).1 in
        let e = t.seq in omega arith
    | inr m ↦ omega arith
  ]

  -- no operation knows more than there is
  pub known_most : (b : Op) → Contains h b → (s : ℕ) → IsSite s → entry b.past s ≤ count_of h s
  known_most b c s i = elim (cases_lt 0 (entry b.past s)) [
    | inl m ↦
        let t = valid.closed b c (record { site = s; seq = entry b.past s })
        (record { site = i; first = m; last = omega arith }) in
        let q = ap (λ (j : OpId). j.seq) t.id in
        let p = ap (λ (j : OpId). j.site) t.id in
        let y = subst (λ s. t.op.id.seq ≤ count_of h s) p
        (number_counted (all_ready run) t.op t.contained) in omega arith
    | inr m ↦ omega arith
  ]

-- ---- what stands last in a valid history

-- the last operation is not under the id of one before it
last_apart : (h : List Op) (a : Op) → AllPairs (λ x y. x.id ≢ y.id) (h ++ a ∷ []) → (b : Op)
    → Contains h b → b.id ≢ a.id
last_apart h a pairs b (i, l, e) same =
    let k = length_push h a in
    let first : get_or (h ++ a ∷ []) i b ≡ b = get_or_append_left h (a ∷ []) b i l ∙ e in
    let last : get_or (h ++ a ∷ []) (length h) b ≡ a = get_or-append_seam h a [] b in
    pairs i (length h) b l (omega (arith, k)) (ap (λ (x : Op). x.id) first
    ∙ (same ∙ sym (ap (λ (x : Op). x.id) last)))

module _ (h : List Op) (a : Op) (ready : AreReady h) (valid : IsValid (h ++ a ∷ [])) where
  there : Contains (h ++ a ∷ []) a
  there = Contains-push h a

  -- the last operation knows no more than stands before it
  last_known : (s : ℕ) → IsSite s → entry a.past s ≤ count_of h s
  last_known s i = elim (cases_lt 0 (entry a.past s)) [
    | inl m ↦
        let t = valid.closed a there (record { site = s; seq = entry a.past s })
        (record { site = i; first = m; last = omega arith }) in
        let q = ap (λ (j : OpId). j.seq) t.id in
        let p = ap (λ (j : OpId). j.site) t.id in
        elim (Contains-push_cases h a t.op t.contained) [
          | inl k ↦ let y = subst (λ s. t.op.id.seq ≤ count_of h s) p
              (number_counted ready t.op k) in omega arith
          | inr e ↦
              let site : a.id.site ≡ s = ap (λ (x : Op). x.id.site) e ∙ p in
              let seq : a.id.seq ≡ entry a.past s = ap (λ (x : Op). x.id.seq) e ∙ q in
              let own = subst (λ s. entry a.past s + 1 ≡ a.id.seq) site (valid.own a there) in
              absurd (omega (arith, seq, own))
        ]
    | inr m ↦ omega arith
  ]

  -- the last operation has the next number of its site
  last_number : a.id.seq ≡ count_of h a.id.site + 1
  last_number =
      let range = valid.in_range a there in
      let own = valid.own a there in
      let most = last_known a.id.site (site_in_range a range) in
      elim (cases_lt (count_of h a.id.site) a.id.seq) [
        | inl m ↦ omega (arith, own, most, m)
        | inr m ↦
            let t = has_counted ready a.id (seq_in_range a range).0 m in
            absurd (last_apart h a valid.distinct t.op t.contained (same_id t.op a t.site t.seq))
      ]

  pub last_accepted : IsAccepted h a
  last_accepted =
      part_accepts (h ++ a ∷ []) h valid (λ b m. Contains-append_left h (a ∷ []) b m) ready a there
      (record { seq = last_number; others = λ s i d. last_known s i })

-- ---- courses

pub course_ready : {s : ℕ} {h : List Op} → IsCourse s h → AreReady h
course_ready course_none = ready_none
course_ready (course_next {h} a c valid own) = let r = course_ready c in
    ready_next r (accepted_ready h a (last_accepted h a r valid))

pub course_accepted : {s : ℕ} {h : List Op} → IsCourse s h → AreAccepted h
course_accepted course_none = none
course_accepted (course_next {h} a c valid own) = next (course_accepted c)
    (last_accepted h a (course_ready c) valid)
