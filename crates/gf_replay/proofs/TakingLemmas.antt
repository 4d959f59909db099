-- What offers and steps make of the operations that a replica has.
use Rattle.std.specs.Prelude.{ℕ, ◌⊎◌, ◌↔◌, ◌<◌, Contains, Ok, Err, IfErr, OnOk, Result, ⊤, length}
use Rattle.std.proofs.Common.{◌≡◌, ◌≢◌, List, [], ◌∷◌, ◌++◌, sym, subst, ap, ◌∙◌, inl, inr, arith}
use Rattle.std.specs.declared.cmp.Ordering.TheVariants.{Less}
use Rattle.std.specs.List.Sorted.{IsStrictlySortedBy}
use Rattle.std.proofs.lemmas.Cmp.{tied_itself}
use Rattle.std.proofs.lemmas.List.Elements.{All-contains, All-from_recursion, Contains-append_left}
use Rattle.std.proofs.lemmas.List.Elements.{Contains-push, Contains-push_cases}
use Rattle.std.proofs.lemmas.Map.Keys.{sorted_head, sorted_tail}
use Rattle.gf_base.proofs.ListLemmas.{Contains-cons_cases, Contains-map}
use Rattle.gf_ops.specs.OperationOrder.{id_cmp}
use Rattle.std.proofs.lemmas.List.{length-append}
use Rattle.gf_ops.specs.declared.op.Op.{Op}
use Rattle.gf_ops.specs.declared.op.OpId.{OpId}
use Rattle.gf_ops.specs.declared.faults.OpFault.{OpFault}
use Rattle.gf_ops.specs.Accepted.{AreAccepted}
use Rattle.gf_ops.specs.Limits.{IsInRange}
use Rattle.gf_ops.specs.ValidHistory.{IsValid}
use Rattle.gf_causal.specs.declared.buffer.Offered.{Offered}
use Rattle.gf_causal.specs.declared.buffer.Offered.TheVariants as offer
use Rattle.gf_causal.specs.declared.faults.OfferFault.{OfferFault}
use Rattle.gf_causal.specs.DeliveredPart.{AreOneById, IsDelivery, IsLastDelivery}
use Rattle.gf_causal.specs.HeldOperations.{Adds, AreHeld, HasOther, IsClash, IsKnown, IsNew, ids_of}
use Rattle.gf_causal.specs.Ready.{NoneIsReady}
use Rattle.gf_causal.proofs.HeldLemmas.{ids_total}
use Rattle.gf_causal.proofs.ListLemmas.{Contains-between, Contains-between_cases}
use Rattle.gf_causal.proofs.ListLemmas.{Contains-between_itself}
use Rattle.gf_causal.proofs.CourseLemmas.{number_counted, delivered_part}
use Rattle.gf_site.specs.ReplicaState.{ReplicaState}
use Rattle.gf_site.specs.ReplicaSteps.{AppliesNext, ForgetsNext}
use Rattle.gf_site.proofs.CourseLemmas.{all_ready}
use Rattle.gf_replay.specs.declared.reading_error.ReadingError.{ReadingError}
use Rattle.gf_replay.specs.declared.reading_error.ReadingError.TheVariants as reading
use Rattle.gf_replay.specs.Denoting.{Delivers}
use Rattle.gf_replay.specs.Waiting.{AreWaiting}
use Rattle.gf_replay.specs.Taking.{HasOrHolds, HoldsOthers, KeepsAll, Offers, again, new, Moves}
use Rattle.gf_replay.specs.Taking.{StepsAll, DropsReady, HasTaken, TakesOp, RefusesOp}
use Rattle.gf_replay.specs.LineSteps.{RefusesStepping}

-- ---- one operation more

pub more_there : (held more : List Op) (a : Op) → Adds held a more → (b : Op) → Contains more b
    → (b ≡ a) ⊎ Contains held b
more_there held more a adds b i = elim (Contains-between_cases adds.before a adds.after b
    (subst (λ l. Contains l b) adds.with_it i)) [
      | inl e ↦ inl e
      | inr j ↦ inr (subst (λ l. Contains l b) (sym adds.without) j)
    ]

pub held_more : (held more : List Op) (a : Op) → Adds held a more → (b : Op) → Contains held b
    → Contains more b
held_more held more a adds b i = subst (λ l. Contains l b) (sym adds.with_it)
    (Contains-between adds.before a adds.after b (subst (λ l. Contains l b) adds.without i))

itself_more : (held more : List Op) (a : Op) → Adds held a more → Contains more a
itself_more held more a adds = subst (λ l. Contains l a) (sym adds.with_it)
    (Contains-between_itself adds.before a adds.after)

-- ---- an offer

-- what was offered is there
pub offered_there : (x y : ReplicaState) (a : Op) → Offers x a y → HasOrHolds y a
offered_there x y a (again known same) = subst (λ s. HasOrHolds s a) (sym same) known.known
offered_there x y a (new fresh adds ops) = inl (itself_more x.held y.held a adds)

-- what was there stays
pub offer_keeps : (x y : ReplicaState) (a : Op) → Offers x a y → (b : Op) → HasOrHolds x b
    → HasOrHolds y b
offer_keeps x y a (again known same) b i = subst (λ s. HasOrHolds s b) (sym same) i
offer_keeps x y a (new fresh adds ops) b (inl i) = inl (held_more x.held y.held a adds b i)
offer_keeps x y a (new fresh adds ops) b (inr i) = inr (subst (λ l. Contains l b) (sym ops) i)

-- and nothing else is there
pub offer_from : (x y : ReplicaState) (a : Op) → Offers x a y → (b : Op) → HasOrHolds y b
    → (b ≡ a) ⊎ HasOrHolds x b
offer_from x y a (again known same) b i = inr (subst (λ s. HasOrHolds s b) same i)
offer_from x y a (new fresh adds ops) b (inl i) = elim (more_there x.held y.held a adds b i)
    [ inl e ↦ inl e | inr j ↦ inr (inl j) ]
offer_from x y a (new fresh adds ops) b (inr i) = inr (inr (subst (λ l. Contains l b) ops i))

offer_ops : (x y : ReplicaState) (a : Op) → Offers x a y → y.ops ≡ x.ops
offer_ops x y a (again known same) = ap (λ (s : ReplicaState). s.ops) same
offer_ops x y a (new fresh adds ops) = ops

-- what is held is no part of the history still
offer_others : (x y : ReplicaState) (a : Op) → HoldsOthers x → Offers x a y → HoldsOthers y
offer_others x y a others (again known same) = subst HoldsOthers (sym same) others
offer_others x y a others (new fresh adds ops) = λ b i j.
    let there = subst (λ l. Contains l b) ops j in
    elim (more_there x.held y.held a adds b i) [
      | inl e ↦ fresh.not_added b there (ap (λ (z : Op). z.id) e)
      | inr k ↦ others b k there
    ]

module _ (ops : List Op) (x : ReplicaState) (t : HasTaken ops x) (a : Op) where
  -- with an offered operation equal ids are equal operations still
  one_more : ((b : Op) → Contains ops b → b.id ≡ a.id → b ≡ a) → AreOneById (ops ++ a ∷ [])
  one_more same b c i j e = elim (Contains-push_cases ops a b i) [
    | inl k ↦ elim (Contains-push_cases ops a c j) [
      | inl l ↦ t.one b c k l e
      | inr f ↦ same b k (e ∙ sym (ap (λ (x : Op). x.id) f)) ∙ f
    ]
    | inr f ↦ elim (Contains-push_cases ops a c j) [
      | inl l ↦ sym f ∙ sym (same c l (sym e ∙ sym (ap (λ (x : Op). x.id) f)))
      | inr g ↦ sym f ∙ g
    ]
  ]

  offered_one : (y : ReplicaState) → Offers x a y → AreOneById (ops ++ a ∷ [])
  offered_one y (again known same) = one_more (λ b i e. t.one b a i ((t.all a).1 known.known) e)
  offered_one y (new fresh adds is) = one_more
      (λ b i e. elim ((t.all b).0 i) [
        | inl j ↦ absurd (fresh.not_held b j e)
        | inr j ↦ absurd (fresh.not_added b j e)
      ])

  -- an offered operation is taken
  pub HasTaken-offer : (y : ReplicaState) → Offers x a y → HasTaken (ops ++ a ∷ []) y
  HasTaken-offer y offers = record {
    one = offered_one y offers;
    others = offer_others x y a t.others offers;
    all = λ b. (
      λ i. elim (Contains-push_cases ops a b i) [
        | inl j ↦ offer_keeps x y a offers b ((t.all b).0 j)
        | inr e ↦ subst (HasOrHolds y) e (offered_there x y a offers)
      ],
      λ i. elim (offer_from x y a offers b i) [
        | inl e ↦ subst (Contains (ops ++ a ∷ [])) (sym e) (Contains-push ops a)
        | inr j ↦ Contains-append_left ops (a ∷ []) b ((t.all b).1 j)
      ],
    );
    accepted = subst AreAccepted (sym (offer_ops x y a offers)) t.accepted;
    valid = subst IsValid (sym (offer_ops x y a offers)) t.valid;
  }

  -- what clashes with an operation that is there clashes with one that was taken
  pub other_taken : IsClash x.held x.ops a → HasOther ops a
  other_taken (inl o) = record {
    other = o.other;
    contained = (t.all o.other).1 (inl o.contained);
    id = o.id;
    differs = o.differs;
  }
  other_taken (inr o) = record {
    other = o.other;
    contained = (t.all o.other).1 (inr o.contained);
    id = o.id;
    differs = o.differs;
  }

-- ---- steps

-- where a replica moves, what was taken is what it has
pub HasTaken-moves : (ops : List Op) (x y : ReplicaState) → HasTaken ops x → Moves x y
    → HasTaken ops y
HasTaken-moves ops x y t moves = record {
  one = t.one;
  all = λ a. (
    λ i. (moves.keeps.same a).0 ((t.all a).0 i),
    λ i. (t.all a).1 ((moves.keeps.same a).1 i),
  );
  others = moves.keeps.others t.others;
  accepted = moves.accepted;
  valid = moves.valid;
}

has_applied : (x y : ReplicaState) (id : OpId) → AppliesNext x id y → (a : Op) → HasOrHolds x a
    → HasOrHolds y a
has_applied x y id s a (inl i) = elim (more_there y.held x.held s.op s.takes.taken a i) [
  | inl e ↦ inr (subst (λ l. Contains l a) (sym s.ops)
      (subst (Contains (x.ops ++ s.op ∷ [])) (sym e) (Contains-push x.ops s.op)))
  | inr j ↦ inl j
]
has_applied x y id s a (inr i) = inr
    (subst (λ l. Contains l a) (sym s.ops) (Contains-append_left x.ops (s.op ∷ []) a i))

applied_had : (x y : ReplicaState) (id : OpId) → AppliesNext x id y → (a : Op) → HasOrHolds y a
    → HasOrHolds x a
applied_had x y id s a (inl i) = inl (held_more y.held x.held s.op s.takes.taken a i)
applied_had x y id s a (inr i) =
    elim (Contains-push_cases x.ops s.op a (subst (λ l. Contains l a) s.ops i)) [
      | inl j ↦ inr j
      | inr e ↦ inl (subst (Contains x.held) e (itself_more y.held x.held s.op s.takes.taken))
    ]

-- the first of operations whose ids rise is below the others
below_all : (a : Op) (ops : List Op) → IsStrictlySortedBy id_cmp (ids_of (a ∷ ops)) → (b : Op)
    → Contains ops b → id_cmp a.id b.id ≡ Less
below_all a ops s b i = All-contains (λ y. id_cmp a.id y ≡ Less) (ids_of ops) b.id
    (All-from_recursion (λ y. id_cmp a.id y ≡ Less) (ids_of ops)
    (sorted_head id_cmp a.id (ids_of ops) s)) (Contains-map (λ (z : Op). z.id) ops b i)

-- of operations whose ids rise, the others than a are not a
not_another : (before after : List Op) (a : Op)
    → IsStrictlySortedBy id_cmp (ids_of (before ++ a ∷ after)) → ¬ (Contains (before ++ after) a)
not_another [] after a s i = let l = below_all a after s a i in
    let t = tied_itself ids_total a.id in absurd cc
not_another (b ∷ before) after a s i = elim (Contains-cons_cases b (before ++ after) a i) [
  | inl e ↦
      let l = below_all b (before ++ a ∷ after) s a (Contains-between_itself before a after) in
      let t = tied_itself ids_total a.id in
      let f : id_cmp a.id a.id ≡ Less = subst (λ z. id_cmp z.id a.id ≡ Less) (sym e) l in
      absurd cc
  | inr j ↦ not_another before after a (sorted_tail id_cmp b.id (ids_of (before ++ a ∷ after)) s) j
]

-- what is taken into the history is held no more
applied_others : (x y : ReplicaState) (id : OpId) → AreHeld x.held → HoldsOthers x
    → AppliesNext x id y
    → HoldsOthers y
applied_others x y id held others s b i j =
    let adds = s.takes.taken in
    elim (Contains-push_cases x.ops s.op b (subst (λ l. Contains l b) s.ops j)) [
      | inl k ↦ others b (held_more y.held x.held s.op adds b i) k
      | inr e ↦
          let rises = subst (λ l. IsStrictlySortedBy id_cmp (ids_of l)) adds.with_it held.rising in
          not_another adds.before adds.after s.op rises
          (subst (λ l. Contains l s.op) adds.without (subst (Contains y.held) (sym e) i))
    ]

-- a step that adds an operation takes nothing away and brings nothing
pub keeps_applied : (x y z : ReplicaState) (id : OpId) → AreHeld y.held → KeepsAll x y
    → AppliesNext y id z
    → KeepsAll x z
keeps_applied x y z id held keeps s = record {
  same = λ a. (
    λ i. has_applied y z id s a ((keeps.same a).0 i),
    λ i. (keeps.same a).1 (applied_had y z id s a i),
  );
  others = λ others. applied_others y z id held (keeps.others others) s;
}

-- and what it took out made the held ones more
pub applied_shorter : (x y : ReplicaState) (id : OpId) → AppliesNext x id y
    → length y.held < length x.held
applied_shorter x y id s =
    let adds = s.takes.taken in
    subst (λ l. length y.held < length l) (sym adds.with_it)
    (subst (λ l. length l < length (adds.before ++ s.op ∷ adds.after)) (sym adds.without)
    (rw length-append (rw length-append (omega arith))))

-- a step that drops an operation shows one that doesn't fit
pub dropped_ready : (x y z : ReplicaState) (id : OpId) (fault : OpFault) → KeepsAll x y
    → AreAccepted y.ops → IsValid y.ops → ForgetsNext y id fault z → DropsReady x id fault
dropped_ready x y z id fault keeps accepted valid d = record {
  state = y;
  moves = record { keeps = keeps; accepted = accepted; valid = valid };
  op = d.op;
  there = (keeps.same d.op).1 (inl d.takes.first.contained);
  named = d.id;
  ready = d.takes.first.ready;
  refused = d.refused;
}

-- a step that finds none ready is the last one
pub idle_steps : (x y z : ReplicaState) → KeepsAll x y → AreAccepted y.ops → IsValid y.ops
    → NoneIsReady y.ops y.held × (z ≡ y) → StepsAll x z
idle_steps x y z keeps accepted valid idle = subst (StepsAll x) (sym idle.1)
    (record { moves = record { keeps = keeps; accepted = accepted; valid = valid }; none = idle.0 })

-- ---- delivering

-- a history of what was taken is a delivery of it
pub taken_delivery : (ops : List Op) (x : ReplicaState) → HasTaken ops x → IsDelivery ops x.ops
taken_delivery ops x t = record {
  from_offered = λ a i. (t.all a).1 (inr i);
  once = t.valid.distinct;
  in_turn = all_ready t.accepted;
}

-- where no held operation is ready, the history is the delivered part of what was taken
pub delivers : (ops : List Op) (x : ReplicaState) → HasTaken ops x → NoneIsReady x.ops x.held
    → Delivers ops x.ops
delivers ops x t none = record {
  one = t.one;
  delivered = delivered_part ops x.ops t.one last;
  valid = t.valid;
}
  where
    last : IsLastDelivery ops x.ops
    last = record {
      delivery = taken_delivery ops x t;
      last = λ a i ready. elim ((t.all a).0 i) [
        | inl j ↦ none a j ready
        | inr j ↦ let known = number_counted (all_ready t.accepted) a j in let seq = ready.seq in
            absurd (omega arith)
      ];
    }

-- where held operations are no part of the history, they are the others of what was taken
pub waiting : (ops : List Op) (x : ReplicaState) → HasTaken ops x → AreHeld x.held
    → AreWaiting ops x.ops x.held
waiting ops x t held = record {
  exactly = λ a. (
    λ i. ((t.all a).1 (inl i), t.others a i),
    λ there. elim ((t.all a).0 there.0) [ inl i ↦ i | inr i ↦ absurd (there.1 i) ],
  );
  rising = held.rising;
}

-- ---- one operation

-- an offer that was not refused holds the operation, or finds it there
pub offered : (x y : ReplicaState) (a : Op) (r : Result Offered OfferFault) (o : Offered)
    → (r ≡ Ok offer.Already ↔ (IsInRange a × IsKnown x.held x.ops a)) →
    (r ≡ Ok offer.Held → IsInRange a × IsNew x.held x.ops a × Adds x.held a y.held)
    → (r ≢ Ok offer.Held → y ≡ x) → y ≡ record x { held = y.held } → r ≡ Ok o → Offers x a y
offered x y a r offer.Already known fresh same kept e = again (known.0 e).1
    (same (λ f. let g = sym e ∙ f in absurd cc))
offered x y a r offer.Held known fresh same kept e = let f = fresh e in
    new f.1 f.2 (ap (λ (s : ReplicaState). s.ops) kept)

pub op_taken : (a : Op) (x y z : ReplicaState) (r : Result ⊤ ReadingError) → Offers x a y
    → OnOk r (StepsAll y z) → OnOk r (TakesOp a x z)
op_taken a x y z (Ok u) offers steps = record { offered = y; offers = offers; steps = steps }
op_taken a x y z (Err e) offers steps = tt

-- an operation behind which not all is stepped is refused for that
pub op_refused : (n : ℕ) (a : Op) (x y : ReplicaState) (r : Result ⊤ ReadingError) → Offers x a y
    → IfErr r (RefusesStepping y) → IfErr r (RefusesOp n a x)
op_refused n a x y (Ok u) offers refused = tt
op_refused n a x y (Err (reading.Dropped id fault)) offers refused = record {
  offered = y;
  offers = offers;
  drops = refused;
}
op_refused n a x y (Err reading.OutOfMemory) offers refused = tt
op_refused n a x y (Err (reading.Line m why)) offers refused = absurd refused
