-- All of a valid history is delivered: by induction over how much an operation knows.
use Rattle.std.proofs.Common.{ℕ, zero, suc, ◌+◌, ◌<◌, ◌≤◌, List, inl, inr, ap, subst, arith}
use Rattle.std.specs.Prelude.{Contains}
use Rattle.std.proofs.lemmas.Bool.{cases_lt, cases_eq}
use Rattle.gf_ops.specs.declared.op.Op.{Op}
use Rattle.gf_ops.specs.declared.op.OpId.{OpId}
use Rattle.gf_ops.specs.declared.op.Clock.{Clock}
use Rattle.gf_ops.specs.OperationOrder.{IsSite, entry, count_of}
use Rattle.gf_ops.specs.ValidHistory.{IsWithin, IsValid}
use Rattle.gf_causal.specs.DeliveredPart.{IsLastDelivery, IsDeliveredPart, HaveSame}
use Rattle.gf_causal.proofs.StandingLemmas.{one_of_pairs}
use Rattle.gf_ops.proofs.HistoryLemmas.{site_in_range}
use Rattle.gf_causal.proofs.CourseLemmas.{has_counted, number_counted, same_id}
use Rattle.gf_causal.proofs.FinishLemmas.{last_delivery}

-- f 1 + .. + f n
abbrev sum_to : (ℕ → ℕ) → ℕ → ℕ
sum_to f zero = 0
sum_to f (suc n) = f (suc n) + sum_to f n

sum_to-le : (f g : ℕ → ℕ) (n : ℕ) → ((s : ℕ) → 1 ≤ s → s ≤ n → f s ≤ g s) → sum_to f n ≤ sum_to g n
sum_to-le f g zero le = omega arith
sum_to-le f g (suc n) le =
    let i = sum_to-le f g n (λ s l m. le s l (omega arith)) in
    let k = le (suc n) (omega arith) (omega arith) in omega arith

sum_to-lt : (f g : ℕ → ℕ) (n t : ℕ) → ((s : ℕ) → 1 ≤ s → s ≤ n → f s ≤ g s) → 1 ≤ t → t ≤ n
    → f t < g t → sum_to f n < sum_to g n
sum_to-lt f g zero t le a b l = absurd (omega arith)
sum_to-lt f g (suc n) t le a b l = elim (cases_eq t (suc n)) [
  | inl e ↦
      let i = sum_to-le f g n (λ s l m. le s l (omega arith)) in
      let k = subst (λ s. f s < g s) e l in omega arith
  | inr d ↦
      let i = sum_to-lt f g n t (λ s l m. le s l (omega arith)) a (omega arith) l in
      let k = le (suc n) (omega arith) (omega arith) in omega arith
]

-- how much a clock knows
abbrev known : Clock → ℕ
known c = sum_to (entry c) 8

module _ (offered h added : List Op) (valid : IsValid h) (same : HaveSame offered h)
    (l : IsLastDelivery offered added) where
  -- an operation whose known ones are all delivered is delivered
  delivered_next : (a : Op) → Contains h a
      → ((s : ℕ) → IsSite s → entry a.past s ≤ count_of added s) → Contains added a
  delivered_next a c le =
      let own = valid.own a c in
      let w = le a.id.site (site_in_range a (valid.in_range a c)) in
      elim (cases_lt (count_of added a.id.site) a.id.seq) [
        | inl m ↦ absurd (l.last a ((same a).1 c)
            (record { seq = omega arith; others = λ s i n. le s i }))
        | inr m ↦
            let t = has_counted l.delivery.in_turn a.id (omega arith) m in
            let k = (same t.op).0 (l.delivery.from_offered t.op t.contained) in
            subst (Contains added) (one_of_pairs h valid.distinct t.op a k c
            (same_id t.op a t.site t.seq)) t.contained
      ]

  -- an operation that a knows knew less
  knew_less : (a b : Op) → Contains h b → IsWithin b.past a.past → b.id.seq ≤ entry a.past b.id.site
      → known b.past < known a.past
  knew_less a b c w l =
      let own = valid.own b c in
      let s = site_in_range b (valid.in_range b c) in
      sum_to-lt (entry b.past) (entry a.past) 8 b.id.site (λ t f m. w t (f, m)) s.0 s.1
      (omega arith)

  all_delivered : (n : ℕ) (a : Op) → Contains h a → known a.past < n → Contains added a
  all_delivered zero a c k = absurd (omega arith)
  all_delivered (suc n) a c k = delivered_next a c (λ s i. elim (cases_lt 0 (entry a.past s)) [
    | inl m ↦
        let t = valid.closed a c (record { site = s; seq = entry a.past s })
        (record { site = i; first = m; last = omega arith }) in
        let q = ap (λ (j : OpId). j.seq) t.id in
        let p = ap (λ (j : OpId). j.site) t.id in
        let e : t.op.id.seq ≤ entry a.past t.op.id.site = rw p (omega arith) in
        let w = knew_less a t.op t.contained t.such e in
        let x = number_counted l.delivery.in_turn t.op
        (all_delivered n t.op t.contained (omega arith)) in
        let y = subst (λ s. t.op.id.seq ≤ count_of added s) p x in omega arith
    | inr m ↦ omega arith
  ])

pub whole_delivered : (offered h : List Op) → IsValid h → HaveSame offered h
    → IsDeliveredPart offered h
whole_delivered offered h valid same a = (
  λ c.
      let f = last_delivery offered in
      record {
        added = f.added;
        delivery = f.is_last.delivery;
        contained = all_delivered offered h f.added valid same f.is_last (known a.past + 1) a c
            (omega arith);
      },
  λ t. (same a).0 (t.delivery.from_offered a t.contained),
)
