-- All sites of a session have one history.
use Rattle.std.proofs.Common.{◌≡◌, ◌≢◌, ℕ, List, [], ◌∷◌, inl, inr, refl, sym, ap, subst, ◌∙◌}
use Rattle.std.specs.Prelude.{◌⊎◌, Contains}
use Rattle.std.specs.List.{flat_map}
use Rattle.std.proofs.lemmas.Bool.{cases_eq}
use Rattle.std.proofs.lemmas.Bool.Decides.{eqb_tells}
use Rattle.std.proofs.lemmas.List.Elements.{Contains-append_left, Contains-append_right}
use Rattle.std.proofs.lemmas.List.Elements.{Contains-append_cases}
use Rattle.gf_ops.specs.declared.op.Op.{Op}
use Rattle.gf_ops.specs.declared.op.OpId.{OpId}
use Rattle.gf_ops.specs.declared.change.Change.{Change}
use Rattle.gf_ops.specs.declared.change.Change.TheVariants.{Create, Set}
use Rattle.gf_ops.specs.KnownObject.{IsSuited}
use Rattle.gf_ops.specs.ValidHistory.{IsValid}
use Rattle.gf_ops.proofs.AimedLemmas.{aimed_beyond}
use Rattle.gf_base.proofs.ListLemmas.{not_Contains-nil, Contains-cons_cases, Contains-cons_head}
use Rattle.gf_base.proofs.ListLemmas.{Contains-cons_tail}
use Rattle.gf_ops.proofs.ValidityLemmas.{same_op, has_beyond, suited_beyond}
use Rattle.gf_causal.specs.DeliveredPart.{AreOneById, HasLastDelivery}
use Rattle.gf_causal.proofs.FinishLemmas.{last_delivery}
use Rattle.gf_causal.proofs.CourseLemmas.{delivered_part}
use Rattle.gf_worker.specs.declared.worker.WorkerEnd.{WorkerEnd}
use Rattle.gf_worker.specs.Messages.{own}
use Rattle.gf_worker.specs.Coming.{HasCome, AreForeign}
use Rattle.gf_session.specs.Joined.{AreJoined, HaveOne}
use Rattle.gf_site.proofs.CourseLemmas.{course_ready}

-- ---- the operations of one site

own_cons : (s : ℕ) (x : Op) (ops : List Op) → ((x.id.site ≡ s) × (own s (x ∷ ops) ≡ x ∷ own s ops))
    ⊎ ((x.id.site ≢ s) × (own s (x ∷ ops) ≡ own s ops))
own_cons s x ops = elim (eqb_tells x.id.site s) [
  | inl p ↦ inl (p.1, rw p.0 refl)
  | inr p ↦ inr (p.1, rw p.0 refl)
]

pub Contains-own : (s : ℕ) (ops : List Op) (a : Op) → Contains ops a → a.id.site ≡ s
    → Contains (own s ops) a
Contains-own s [] a c e = absurd (not_Contains-nil a c)
Contains-own s (x ∷ ops) a c e = elim (own_cons s x ops) [
  | inl p ↦ subst (λ l. Contains l a) (sym p.1) (elim (Contains-cons_cases x ops a c) [
    | inl q ↦ subst (Contains (x ∷ own s ops)) (sym q) (Contains-cons_head x (own s ops))
    | inr k ↦ Contains-cons_tail x (own s ops) a (Contains-own s ops a k e)
  ])
  | inr p ↦ subst (λ l. Contains l a) (sym p.1) (elim (Contains-cons_cases x ops a c) [
    | inl q ↦ absurd (p.0 (ap (λ (y : Op). y.id.site) (sym q) ∙ e))
    | inr k ↦ Contains-own s ops a k e
  ])
]

pub own_from : (s : ℕ) (ops : List Op) (a : Op) → Contains (own s ops) a
    → Contains ops a × (a.id.site ≡ s)
own_from s [] a c = absurd (not_Contains-nil a c)
own_from s (x ∷ ops) a c = elim (own_cons s x ops) [
  | inl p ↦ elim (Contains-cons_cases x (own s ops) a (subst (λ l. Contains l a) p.1 c)) [
    | inl q ↦ (
      subst (Contains (x ∷ ops)) (sym q) (Contains-cons_head x ops),
      ap (λ (y : Op). y.id.site) q ∙ p.0,
    )
    | inr k ↦ let t = own_from s ops a k in (Contains-cons_tail x ops a t.0, t.1)
  ]
  | inr p ↦ let t = own_from s ops a (subst (λ l. Contains l a) p.1 c) in
      (Contains-cons_tail x ops a t.0, t.1)
]

-- ---- the operations of all sites

abbrev all_ops : List WorkerEnd → List Op
all_ops ends = flat_map (λ e. e.site.ops) ends

record At (ends : List WorkerEnd) (a : Op) : Type 0 where
  end : WorkerEnd
  contained : Contains ends end
  has : Contains end.site.ops a

at_some : (ends : List WorkerEnd) (a : Op) → Contains (all_ops ends) a → At ends a
at_some [] a c = absurd (not_Contains-nil a c)
at_some (e ∷ ends) a c = elim (Contains-append_cases e.site.ops (all_ops ends) a c) [
  | inl k ↦ record { end = e; contained = Contains-cons_head e ends; has = k }
  | inr k ↦ let t = at_some ends a k in record {
    end = t.end;
    contained = Contains-cons_tail e ends t.end t.contained;
    has = t.has;
  }
]

among_all : (ends : List WorkerEnd) (e : WorkerEnd) (a : Op) → Contains ends e
    → Contains e.site.ops a → Contains (all_ops ends) a
among_all [] e a c k = absurd (not_Contains-nil e c)
among_all (f ∷ ends) e a c k = elim (Contains-cons_cases f ends e c) [
  | inl q ↦ Contains-append_left f.site.ops (all_ops ends) a
      (subst (λ (x : WorkerEnd). Contains x.site.ops a) q k)
  | inr m ↦ Contains-append_right f.site.ops (all_ops ends) a (among_all ends e a m k)
]

module _ (ends : List WorkerEnd) (joined : AreJoined ends) where
  -- each operation was made at the site of its number
  pub record Origin (a : Op) : Type 0 where
    pub end : WorkerEnd
    pub contained : Contains ends end
    pub has : Contains end.site.ops a
    pub site : a.id.site ≡ end.site.number

  come_origin : (e : WorkerEnd) (a : Op) → Contains ends e → HasCome e.seats.items a → Origin a
  come_origin e a c h =
      let t = joined.senders e c h.peer h.contained in
      let m = own_from t.end.site.number t.end.site.ops a (subst (λ l. Contains l a) t.all h.among)
      in
      record { end = t.end; contained = t.contained; has = m.0; site = m.1 }

  pub origin : (e : WorkerEnd) (a : Op) → Contains ends e → Contains e.site.ops a → Origin a
  origin e a c k = elim (cases_eq a.id.site e.site.number) [
    | inl q ↦ record { end = e; contained = c; has = k; site = q }
    | inr d ↦ come_origin e a c ((joined.complete e c).has a k d)
  ]

  -- operations under one id are one
  one_by_id : AreOneById (all_ops ends)
  one_by_id a b c k i =
      let p = at_some ends a c in
      let q = at_some ends b k in
      let o = origin p.end a p.contained p.has in
      let r = origin q.end b q.contained q.has in
      let same = joined.one o.end r.end o.contained r.contained (sym o.site
      ∙ ap (λ (j : OpId). j.site) i ∙ r.site) in
      same_op r.end.site.ops (joined.complete r.end r.contained).valid a b
      (subst (λ (x : WorkerEnd). Contains x.site.ops a) same o.has) r.has i

  pub whole : HasLastDelivery (all_ops ends)
  whole = last_delivery (all_ops ends)

  -- each list is a delivery, so its operations stand in the last one
  pub within_whole : (e : WorkerEnd) → Contains ends e → (a : Op) → Contains e.site.ops a
      → Contains whole.added a
  within_whole e c a k =
      let t = joined.complete e c in
      (delivered_part (all_ops ends) whole.added one_by_id whole.is_last a).1 (record {
        added = e.site.ops;
        delivery = record {
          from_offered = λ b m. among_all ends e b c m;
          once = t.valid.distinct;
          in_turn = course_ready t.course;
        };
        contained = k;
      })

  from_some : (a : Op) → Contains whole.added a → At ends a
  from_some a c = at_some ends a (whole.is_last.delivery.from_offered a c)

  pub whole_valid : IsValid whole.added
  whole_valid = record {
    in_range = λ a c. let t = from_some a c in (joined.complete t.end t.contained).valid.in_range a
        t.has;
    distinct = whole.is_last.delivery.once;
    own = λ a c. let t = from_some a c in (joined.complete t.end t.contained).valid.own a t.has;
    closed = λ a c i n.
        let t = from_some a c in
        has_beyond t.end.site.ops whole.added (within_whole t.end t.contained)
        ((joined.complete t.end t.contained).valid.closed a t.has i n);
    suited = λ a c. let t = from_some a c in
        suited_beyond t.end.site.ops whole.added (within_whole t.end t.contained) a a.change
        ((joined.complete t.end t.contained).valid.suited a t.has);
    aimed = λ a c.
        let t = from_some a c in
        aimed_beyond whole.added t.end.site.ops
        (λ x y m n i. one_by_id x y (whole.is_last.delivery.from_offered x m)
        (whole.is_last.delivery.from_offered y n) i)
        (within_whole t.end t.contained) a ((joined.complete t.end t.contained).valid.aimed a
        t.has);
  }

  foreign_came : (e : WorkerEnd) → Contains ends e → AreForeign e.site.number e.seats.items
  foreign_came e c b h q =
      let t = joined.senders e c h.peer h.contained in
      let m = own_from t.end.site.number t.end.site.ops b (subst (λ l. Contains l b) t.all h.among)
      in
      t.other (sym m.1 ∙ q)

  has_or_came : (e : WorkerEnd) → Contains ends e → (a : Op) → Contains whole.added a
      → Contains e.site.ops a ⊎ HasCome e.seats.items a
  has_or_came e c a k =
      let t = from_some a k in
      let o = origin t.end a t.contained t.has in
      elim (cases_eq e.site.number o.end.site.number) [
        | inl q ↦ inl (subst (λ (x : WorkerEnd). Contains x.site.ops a)
            (sym (joined.one e o.end c o.contained q)) o.has)
        | inr d ↦
            let h = joined.heard e o.end c o.contained d in
            inr (record {
              peer = h.peer;
              contained = h.contained;
              among = subst (λ l. Contains l a) (sym h.all)
                  (Contains-own o.end.site.number o.end.site.ops a o.has o.site);
            })
      ]

  -- and each site has all of it
  has_whole : (e : WorkerEnd) → Contains ends e → (a : Op) → Contains whole.added a
      → Contains e.site.ops a
  has_whole e c a k =
      (joined.complete e c).all whole.added (record {
        whole = record {
          valid = whole_valid;
          has = within_whole e c;
          come = λ b m. let w = come_origin e b c m in within_whole w.end w.contained b w.has;
        };
        only = has_or_came e c;
      }) (foreign_came e c) a k

  pub one_history : HaveOne ends
  one_history = record {
    history = whole.added;
    valid = whole_valid;
    same = λ e c a. (within_whole e c a, has_whole e c a);
  }
