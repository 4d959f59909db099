-- Each list of operations has a delivery that cannot go on: while one is ready it is put behind
-- those that were added.
use Rattle.std.proofs.Common.{◌≡◌, ◌≢◌, ℕ, zero, suc, ◌+◌, ◌≤◌, List, [], ◌∷◌, ◌++◌, length, get_or}
use Rattle.std.proofs.Common.{length-append, inl, inr, refl, ap, subst, sym, arith}
use Rattle.std.specs.Prelude.{◌⊎◌, Contains}
use Rattle.std.proofs.lemmas.Bool.{cases_lt, cases_eq}
use Rattle.std.proofs.lemmas.List.Elements.{Contains-get_or, Contains-append_left, Contains-push}
use Rattle.std.proofs.lemmas.List.Elements.{Contains-push_cases}
use Rattle.std.proofs.lemmas.List.Quantifiers.{all_pairs_push}
use Rattle.gf_ops.specs.declared.op.Op.{Op}
use Rattle.gf_ops.specs.OperationOrder.{entry, count_of}
use Rattle.gf_causal.specs.Ready.{KnowsNoMore, IsReady, NoneIsReady}
use Rattle.gf_causal.specs.DeliveredPart.{none, next, IsDelivery, HasLastDelivery}
use Rattle.gf_base.proofs.ListLemmas.{not_Contains-nil, Contains-cons_cases}
use Rattle.gf_causal.proofs.ListLemmas.{Contains-between, Contains-between_itself}
use Rattle.gf_causal.proofs.ListLemmas.{Contains-between_cases}
use Rattle.gf_causal.proofs.CourseLemmas.{number_counted}

-- what a knows of the sites 1 to n is tested one by one
known_upto : (h : List Op) (a : Op) (n : ℕ) → n ≤ 8
    → ((s : ℕ) → 1 ≤ s → s ≤ n → s ≢ a.id.site → entry a.past s ≤ count_of h s)
    ⊎ (¬ (KnowsNoMore h a))
known_upto h a zero l = inl (λ s f m d. absurd (omega arith))
known_upto h a (suc n) l = elim (known_upto h a n (omega arith)) [
  | inr k ↦ inr k
  | inl b ↦ elim (cases_eq (suc n) a.id.site) [
    | inl e ↦ inl (λ s f m d. b s f (omega arith) d)
    | inr d ↦ elim (cases_lt (count_of h (suc n)) (entry a.past (suc n))) [
      | inl m ↦ inr (λ k. let w = k (suc n) (omega arith, l) d in absurd (omega arith))
      | inr m ↦ inl (λ s f w x. elim (cases_eq s (suc n))
          [ inl e ↦ rw e m | inr o ↦ b s f (omega arith) x ])
    ]
  ]
]

ready_or_not : (h : List Op) (a : Op) → IsReady h a ⊎ (¬ (IsReady h a))
ready_or_not h a = elim (cases_eq a.id.seq (count_of h a.id.site + 1)) [
  | inl e ↦ elim (known_upto h a 8 (omega arith)) [
    | inl k ↦ inl (record { seq = e; others = λ s i d. k s i.0 i.1 d })
    | inr k ↦ inr (λ r. k r.others)
  ]
  | inr n ↦ inr (λ r. n r.seq)
]

-- some operation of xs, between the others, is ready behind h
record HasReady (h xs : List Op) : Type 0 where
  before : List Op
  op : Op
  after : List Op
  is : xs ≡ before ++ op ∷ after
  ready : IsReady h op

some_ready : (h xs : List Op) → HasReady h xs ⊎ NoneIsReady h xs
some_ready h [] = inr (λ a c r. not_Contains-nil a c)
some_ready h (x ∷ xs) = elim (ready_or_not h x) [
  | inl r ↦ inl (record { before = []; op = x; after = xs; is = refl; ready = r })
  | inr n ↦ elim (some_ready h xs) [
    | inl t ↦ inl (record {
      before = x ∷ t.before;
      op = t.op;
      after = t.after;
      is = ap (λ ys. x ∷ ys) t.is;
      ready = t.ready;
    })
    | inr m ↦ inr (λ a c r. elim (Contains-cons_cases x xs a c)
        [ inl e ↦ n (subst (IsReady h) e r) | inr k ↦ m a k r ])
  ]
]

-- what was delivered is not ready any more
not_again : (offered added : List Op) → IsDelivery offered added → (a : Op) → Contains added a
    → ¬ (IsReady added a)
not_again offered added d a c r = let l = number_counted d.in_turn a c in let s = r.seq in
    absurd (omega arith)

-- a ready operation goes behind those that were added
pub delivery-push : (offered added : List Op) (a : Op) → IsDelivery offered added
    → Contains offered a → IsReady added a → IsDelivery offered (added ++ a ∷ [])
delivery-push offered added a d c r = record {
  from_offered = λ b k. elim (Contains-push_cases added a b k) [
    | inl m ↦ d.from_offered b m
    | inr e ↦ subst (Contains offered) e c
  ];
  once = all_pairs_push (λ x y. x.id ≢ y.id) added a d.once (λ k e l q.
      let m = number_counted d.in_turn (get_or added k e) (Contains-get_or added k e l) in
      let w = subst (λ i. i.seq ≤ count_of added i.site) q m in
      let s = r.seq in absurd (omega arith));
  in_turn = next d.in_turn r;
}

-- where what is left has no ready operation, none of the offered is ready
finished : (offered added left : List Op) → IsDelivery offered added
    → ((a : Op) → Contains offered a → Contains left a ⊎ Contains added a) →
    NoneIsReady added left → HasLastDelivery offered
finished offered added left d all none_left = record {
  added = added;
  is_last = record {
    delivery = d;
    last = λ a c. elim (all a c) [ inl k ↦ none_left a k | inr k ↦ not_again offered added d a k ];
  };
}

go_on : (n : ℕ) (offered added left : List Op) → length left ≤ n → IsDelivery offered added
    → ((a : Op) → Contains left a → Contains offered a) →
    ((a : Op) → Contains offered a → Contains left a ⊎ Contains added a) → HasLastDelivery offered
go_on zero offered added left l d from all = finished offered added left d all
    (λ a (k, m, e) r. absurd (omega arith))
go_on (suc n) offered added left l d from all = elim (some_ready added left) [
  | inr none_left ↦ finished offered added left d all none_left
  | inl t ↦
      let at : Contains left t.op = subst (λ r. Contains r t.op) (sym t.is)
      (Contains-between_itself t.before t.op t.after) in
      go_on n offered (added ++ t.op ∷ []) (t.before ++ t.after)
      (let e = ap length t.is in omega (
        arith,
        length-append t.before (t.op ∷ t.after),
        length-append t.before t.after,
      ))
      (delivery-push offered added t.op d (from t.op at) t.ready)
      (λ a c. from a (subst (λ r. Contains r a) (sym t.is)
      (Contains-between t.before t.op t.after a c)))
      (λ a c. elim (all a c) [
        | inl k ↦ elim (Contains-between_cases t.before t.op t.after a
            (subst (λ r. Contains r a) t.is k)) [
              | inl e ↦ inr (subst (Contains (added ++ t.op ∷ [])) (sym e)
                  (Contains-push added t.op))
              | inr m ↦ inl m
            ]
        | inr k ↦ inr (Contains-append_left added (t.op ∷ []) a k)
      ])
]

pub last_delivery : (offered : List Op) → HasLastDelivery offered
last_delivery offered = go_on (length offered) offered [] offered (omega arith)
    (record {
      from_offered = λ a c. absurd (not_Contains-nil a c);
      once = λ i j d l m. absurd (omega arith);
      in_turn = none;
    })
    (λ a c. c) (λ a c. inl c)
