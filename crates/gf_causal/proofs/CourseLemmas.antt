-- What holds of operations each of which is ready behind those before it.
use Rattle.std.proofs.Common.{◌≡◌, ◌≢◌, ℕ, ◌+◌, ◌≤◌, cond, nat_eq, List, [], ◌∷◌, ◌++◌, inl, inr}
use Rattle.std.proofs.Common.{refl, ap, subst, ◌∙◌, arith}
use Rattle.std.specs.Prelude.{Contains}
use Rattle.std.proofs.lemmas.Bool.{cases_lt, cases_eq, eq-eqb}
use Rattle.std.proofs.lemmas.Bool.Decides.{eqb_tells}
use Rattle.std.proofs.lemmas.List.Sums.{sum_by-append}
use Rattle.std.proofs.lemmas.List.Elements.{Contains-append_left, Contains-push}
use Rattle.std.proofs.lemmas.List.Elements.{Contains-push_cases}
use Rattle.gf_ops.specs.declared.op.Op.{Op}
use Rattle.gf_ops.specs.declared.op.OpId.{OpId}
use Rattle.gf_ops.specs.OperationOrder.{count_of}
use Rattle.gf_causal.specs.Ready.{IsReady}
use Rattle.gf_causal.specs.DeliveredPart.{AreOneById, AreReady, none, next, IsDelivery}
use Rattle.gf_causal.specs.DeliveredPart.{IsLastDelivery, IsDeliveredPart, HaveSame}
use Rattle.gf_base.proofs.ListLemmas.{not_Contains-nil}

-- one operation counts at its own site
count_one : (a : Op) (s : ℕ) → a.id.site ≡ s → count_of (a ∷ []) s ≡ 1
count_one a s e = rw (eq-eqb a.id.site s e) refl

count_none : (a : Op) (s : ℕ) → a.id.site ≢ s → count_of (a ∷ []) s ≡ 0
count_none a s n = elim (eqb_tells a.id.site s) [
  | inl p ↦ let q = p.1 in absurd (n (omega arith))
  | inr p ↦ rw p.0 refl
]

pub count_push_same : (h : List Op) (a : Op) (s : ℕ) → a.id.site ≡ s
    → count_of (h ++ a ∷ []) s ≡ count_of h s + 1
count_push_same h a s e = sum_by-append (λ (x : Op). cond (nat_eq x.id.site s) 1 0) h (a ∷ [])
    ∙ ap (λ n. count_of h s + n) (count_one a s e)

pub count_push_other : (h : List Op) (a : Op) (s : ℕ) → a.id.site ≢ s
    → count_of (h ++ a ∷ []) s ≡ count_of h s
count_push_other h a s n = sum_by-append (λ (x : Op). cond (nat_eq x.id.site s) 1 0) h (a ∷ [])
    ∙ ap (λ n. count_of h s + n) (count_none a s n) ∙ omega arith

-- h has an operation under the id i
pub record HasId (h : List Op) (i : OpId) : Type 0 where
  pub op : Op
  pub contained : Contains h op
  pub site : op.id.site ≡ i.site
  pub seq : op.id.seq ≡ i.seq

HasId-push : (h : List Op) (a : Op) (i : OpId) → HasId h i → HasId (h ++ a ∷ []) i
HasId-push h a i t = record {
  op = t.op;
  contained = Contains-append_left h (a ∷ []) t.op t.contained;
  site = t.site;
  seq = t.seq;
}

-- each number up to the count is there
pub has_counted : {h : List Op} → AreReady h → (i : OpId) → 1 ≤ i.seq → i.seq ≤ count_of h i.site
    → HasId h i
has_counted none i f l = absurd (omega arith)
has_counted (next {h} {a} r q) i f l = elim (cases_eq a.id.site i.site) [
  | inl e ↦
      let n = rw (count_push_same h a i.site e) at l in
      elim (cases_lt (count_of h i.site) i.seq) [
        | inl m ↦
            let s = subst (λ t. a.id.seq ≡ count_of h t + 1) e q.seq in
            record { op = a; contained = Contains-push h a; site = e; seq = omega arith }
        | inr m ↦ HasId-push h a i (has_counted r i f m)
      ]
  | inr d ↦ HasId-push h a i (has_counted r i f (rw (← count_push_other h a i.site d) l))
]

-- no number is above the count
pub number_counted : {h : List Op} → AreReady h → (a : Op) → Contains h a
    → a.id.seq ≤ count_of h a.id.site
number_counted none a c = absurd (not_Contains-nil a c)
number_counted (next {h} {a = b} r q) a c = elim (Contains-push_cases h b a c) [
  | inl k ↦
      let i = number_counted r a k in
      elim (cases_eq b.id.site a.id.site) [
        | inl e ↦ rw (count_push_same h b a.id.site e) (omega arith)
        | inr d ↦ rw (count_push_other h b a.id.site d) i
      ]
  | inr e ↦ subst (λ (x : Op). x.id.seq ≤ count_of (h ++ b ∷ []) x.id.site) e
      (rw (count_push_same h b b.id.site refl) (let s = q.seq in omega arith))
]

-- operations that are among others have no more of any site
pub count_within : {h k : List Op} → AreReady h → AreReady k
    → ((a : Op) → Contains h a → Contains k a) → (s : ℕ) → count_of h s ≤ count_of k s
count_within {h} {k} r q within s = elim (cases_lt 0 (count_of h s)) [
  | inl m ↦
      let t = has_counted r (record { site = s; seq = count_of h s }) m (omega arith) in
      let l = number_counted q t.op (within t.op t.contained) in
      let n = subst (λ s. t.op.id.seq ≤ count_of k s) t.site l in
      let e = t.seq in omega arith
  | inr m ↦ omega arith
]

pub same_id : (a b : Op) → a.id.site ≡ b.id.site → a.id.seq ≡ b.id.seq → a.id ≡ b.id
same_id a b s n j = record { site = s j; seq = n j }

module _ (offered added : List Op) (one : AreOneById offered)
    (l : IsLastDelivery offered added) where
  -- an operation that is ready behind a part of a last delivery is in it
  has_ready : (h : List Op) (b : Op) → Contains offered b
      → ((s : ℕ) → count_of h s ≤ count_of added s) → IsReady h b → Contains added b
  has_ready h b c le q = elim (cases_lt (count_of added b.id.site) b.id.seq) [
    | inl m ↦
        let n = q.seq in
        let w = le b.id.site in
        absurd (l.last b c (record {
          seq = omega arith;
          others = λ s i k. let o = q.others s i k in
              let w = le s in omega arith;
        }))
    | inr m ↦
        let n = q.seq in
        let t = has_counted l.delivery.in_turn b.id (omega arith) m in
        subst (Contains added) (one t.op b (l.delivery.from_offered t.op t.contained) c
        (same_id t.op b t.site t.seq)) t.contained
  ]

  -- each delivery is within a last one
  within_last : {h : List Op} → AreReady h → ((a : Op) → Contains h a → Contains offered a)
      → (a : Op) → Contains h a → Contains added a
  within_last none from a c = absurd (not_Contains-nil a c)
  within_last (next {h} {a = b} r q) from a c =
      let before = within_last r (λ x k. from x (Contains-append_left h (b ∷ []) x k)) in
      elim (Contains-push_cases h b a c) [
        | inl k ↦ before a k
        | inr e ↦ subst (Contains added) e
            (has_ready h b (from b (Contains-push h b)) (count_within r l.delivery.in_turn before)
            q)
      ]

  pub delivered_part : IsDeliveredPart offered added
  delivered_part a = (
    λ c. record { added = added; delivery = l.delivery; contained = c },
    λ t. within_last t.delivery.in_turn t.delivery.from_offered a t.contained,
  )

-- a delivery of the same operations
delivery_of_same : (offered others added : List Op) → HaveSame offered others
    → IsDelivery others added → IsDelivery offered added
delivery_of_same offered others added same d = record {
  from_offered = λ a c. (same a).1 (d.from_offered a c);
  once = d.once;
  in_turn = d.in_turn;
}

last_of_same : (offered others added : List Op) → HaveSame offered others
    → IsLastDelivery others added → IsLastDelivery offered added
last_of_same offered others added same l = record {
  delivery = delivery_of_same offered others added same l.delivery;
  last = λ a c. l.last a ((same a).0 c);
}

pub same_delivered : (offered others c d : List Op) → AreOneById offered → HaveSame offered others
    → IsLastDelivery offered c → IsLastDelivery others d → HaveSame c d
same_delivered offered others c d one same l m a =
    let p = delivered_part offered c one l a in
    let q = delivered_part offered d one (last_of_same offered others d same m) a in
    (λ k. q.1 (p.0 k), λ k. p.1 (q.0 k))
