-- A site that holds nothing that is ready, of all that it has and holds.
use Rattle.std.proofs.Common.{◌≡◌, ℕ, List, [], ◌∷◌, ◌++◌, Option, Some, None, inl, inr, sym, ap}
use Rattle.std.proofs.Common.{subst, arith}
use Rattle.std.specs.Prelude.{◌⊎◌, Contains, slice_get}
use Rattle.std.proofs.lemmas.Bool.{cases_eq}
use Rattle.std.proofs.lemmas.List.Elements.{Contains-append_left, Contains-append_cases}
use Rattle.std.proofs.lemmas.List.Elements.{Contains-push, Contains-push_cases}
use Rattle.gf_ops.specs.declared.op.Op.{Op}
use Rattle.gf_ops.specs.declared.op.OpId.{OpId}
use Rattle.gf_ops.specs.declared.faults.OpFault.{OpFault}
use Rattle.gf_ops.specs.ValidHistory.{IsValid}
use Rattle.gf_base.proofs.ListLemmas.{not_Contains-nil, Contains-cons_cases}
use Rattle.gf_causal.specs.Ready.{NoneIsReady}
use Rattle.gf_causal.specs.DeliveredPart.{none as ready_none, IsDelivery, IsLastDelivery, HaveSame}
use Rattle.gf_causal.proofs.CourseLemmas.{number_counted, delivered_part}
use Rattle.gf_causal.proofs.FinishLemmas.{delivery-push}
use Rattle.gf_causal.proofs.ListLemmas.{Contains-between, Contains-between_itself}
use Rattle.gf_causal.proofs.ListLemmas.{Contains-between_cases}
use Rattle.gf_causal.proofs.PartLemmas.{part_accepts}
use Rattle.gf_causal.proofs.StandingLemmas.{one_of_pairs}
use Rattle.gf_causal.proofs.WholeLemmas.{whole_delivered}
use Rattle.gf_site.specs.declared.replica.Step.{Step}
use Rattle.gf_site.specs.declared.replica.Step.TheVariants.{Applied, Dropped, Idle}
use Rattle.gf_site.specs.SiteState.{SiteState, new_site}
use Rattle.gf_site.specs.Events.{Steps, Applies, ForgetsReady}
use Rattle.gf_site.proofs.CourseLemmas.{course_ready}
use Rattle.gf_site.proofs.StepLemmas.{not_refused, same_site}
use Rattle.gf_replicas.specs.declared.event.Event.{Event}
use Rattle.gf_replicas.specs.declared.event.Event.TheVariants.{Author, Offer, Step as step_event}
use Rattle.gf_replicas.specs.World.{WorldState, site_at, with_site, Receives, already, holds}
use Rattle.gf_replicas.specs.World.{Happens, authors, refuses, receives, no_message, applies, idle}
use Rattle.gf_replicas.specs.World.{no_site, sent, offer_in, IsWorld, start, next}
use Rattle.gf_replicas.specs.Visits.{IsOffered, new, offer, step}
use Rattle.gf_replicas.specs.Settled.{HasHeardAll}
use Rattle.gf_site.proofs.ValidLemmas.{course_valid}
use Rattle.gf_replicas.proofs.SitesLemmas.{site_cases}
use Rattle.gf_replicas.proofs.SoundLemmas.{taken_from, world_sound}

-- the site holds a, or has it
abbrev pub Keeps : SiteState → Op → Type 0
Keeps x a = Contains x.held a ⊎ Contains x.ops a

-- all of a valid history that is held or delivered is delivered, once nothing held is ready
pub settled : (h : List Op) (x : SiteState) → IsValid h → IsDelivery h x.ops
    → ((a : Op) → Contains h a → Keeps x a) → NoneIsReady x.ops x.held → HaveSame x.ops h
settled h x valid d all quiet a =
    let one = one_of_pairs h valid.distinct in
    let last : IsLastDelivery h x.ops = record {
      delivery = d;
      last = λ b m. elim (all b m) [
        | inl k ↦ quiet b k
        | inr k ↦ λ r. let l = number_counted d.in_turn b k in let s = r.seq in absurd (omega arith)
      ];
    } in (
      d.from_offered a,
      λ m. (delivered_part h x.ops one last a).1
          ((whole_delivered h h valid (λ b. (λ k. k, λ k. k)) a).0 m),
    )

-- ---- what a site holds or has, it keeps

receives_keep : (x y : SiteState) (a b : Op) → Receives x a y → Keeps x b → Keeps y b
receives_keep x y a b (already k) m = m
receives_keep x y a b (holds {more} n adds) (inl m) = inl
    (subst (λ l. Contains l b) (sym adds.with_it)
    (Contains-between adds.before a adds.after b (subst (λ l. Contains l b) adds.without m)))
receives_keep x y a b (holds {more} n adds) (inr m) = inr m

receives_has : (x y : SiteState) (a : Op) → Receives x a y → Keeps y a
receives_has x y a (already k) = k
receives_has x y a (holds {more} n adds) = inl (subst (λ l. Contains l a) (sym adds.with_it)
    (Contains-between_itself adds.before a adds.after))

applies_keep : (x y : SiteState) (i : OpId) (b : Op) → Applies x i y → Keeps x b → Keeps y b
applies_keep x y i b t (inl m) =
    let adds = t.0.takes.taken in
    elim (Contains-between_cases adds.before t.0.op adds.after b
    (subst (λ l. Contains l b) adds.with_it m)) [
      | inl e ↦ inr (subst (λ l. Contains l b) (sym t.0.ops)
          (subst (Contains (x.ops ++ t.0.op ∷ [])) (sym e) (Contains-push x.ops t.0.op)))
      | inr k ↦ inl (subst (λ l. Contains l b) (sym adds.without) k)
    ]
applies_keep x y i b t (inr m) = inr
    (subst (λ l. Contains l b) (sym t.0.ops) (Contains-append_left x.ops (t.0.op ∷ []) b m))

-- ---- a world

-- what is at the site of a number after an event was there before, and kept what it held or had
record Came (old : WorldState) (s : ℕ) (y : SiteState) : Type 0 where
  from : SiteState
  at : site_at old.sites s ≡ Some from
  keeps : (a : Op) → Keeps from a → Keeps y a

came_same : (old : WorldState) (s : ℕ) (y : SiteState) → site_at old.sites s ≡ Some y → Came old s y
came_same old s y e = record { from = y; at = e; keeps = λ a k. k }

came_one : (old : WorldState) (s t : ℕ) (x y z : SiteState) → site_at old.sites s ≡ Some x
    → ((a : Op) → Keeps x a → Keeps y a) → site_at (with_site old.sites s y) t ≡ Some z
    → Came old t z
came_one old s t x y z at keep e = elim (site_cases old.sites s t x y z at e) [
  | inl p ↦ record {
    from = x;
    at = subst (λ r. site_at old.sites r ≡ Some x) (sym p.0) at;
    keeps = λ a k. subst (λ w. Keeps w a) (sym p.1) (keep a k);
  }
  | inr p ↦ came_same old t z p.1
]

came : (old after : WorldState) (e : Event) (t : ℕ) (z : SiteState) → Happens old e after
    → site_at after.sites t ≡ Some z → Came old t z
came old after e t z (authors {s} {c} {x} {y} {a} at made) q =
    came_one old s t x y z at (λ b k. subst (λ w. Keeps w b) (sym made.state)
    (elim k [ inl m ↦ inl m | inr m ↦ inr (Contains-append_left x.ops (a ∷ []) b m) ])) q
came old after e t z (refuses at r n) q = came_same old t z q
came old after e t z (receives {s} {m} {x} {y} {a} at there r) q = came_one old s t x y z
    at (λ b k. receives_keep x y a b r k) q
came old after e t z (no_message m) q = came_same old t z q
came old after e t z (applies {s} {x} {y} {i} at u) q = came_one old s t x y z
    at (λ b k. applies_keep x y i b u k) q
came old after e t z (idle at n) q = came_same old t z q
came old after e t z (no_site m) q = came_same old t z q

one_sent : (s t : ℕ) (a b : Op) → Contains (sent s (Some a)) (t, b) → (t ≡ s) × (b ≡ a)
one_sent s t a b m = elim (Contains-cons_cases (s, a) [] (t, b) m) [
  | inl e ↦ (ap (λ (p : ℕ × Op). p.0) e, ap (λ (p : ℕ × Op). p.1) e)
  | inr k ↦ absurd (not_Contains-nil (t, b) k)
]

none_sent : (s t : ℕ) (b : Op) (r : Option Op) → r ≡ None → ¬ (Contains (sent s r) (t, b))
none_sent s t b None e m = not_Contains-nil (t, b) m
none_sent s t b (Some a) e m = absurd cc

-- a message that an event offers is held or there
now_kept : (old after : WorldState) (e : Event) (t : ℕ) (b : Op) (z : SiteState)
    → Happens old e after → Contains (offer_in old.messages e) (t, b)
    → site_at after.sites t ≡ Some z → Keeps z b
now_kept old after e t b z (authors at made) m q = absurd (not_Contains-nil (t, b) m)
now_kept old after e t b z (refuses at r n) m q = absurd (not_Contains-nil (t, b) m)
now_kept old after e t b z (receives {s} {m = k} {x} {y} {a} at there r) m q =
    let p = one_sent s t a b (subst (λ o. Contains (sent s o) (t, b)) there m) in
    elim (site_cases old.sites s t x y z at q) [
      | inl w ↦ subst (λ v. Keeps v b) (sym w.1) (subst (Keeps y) (sym p.1) (receives_has x y a r))
      | inr w ↦ absurd (w.0 p.0)
    ]
now_kept old after e t b z (no_message {s} {m = k} gone) m q =
    absurd (none_sent s t b (slice_get old.messages k) gone m)
now_kept old after e t b z (applies at u) m q = absurd (not_Contains-nil (t, b) m)
now_kept old after e t b z (idle at n) m q = absurd (not_Contains-nil (t, b) m)
now_kept old after (Author s c) t b z (no_site gone) m q = absurd (not_Contains-nil (t, b) m)
now_kept old after (step_event s) t b z (no_site gone) m q = absurd (not_Contains-nil (t, b) m)
now_kept old after (Offer s k) t b z (no_site gone) m q =
    absurd (nowhere (slice_get old.messages k) m)
  where
    nowhere : (r : Option Op) → ¬ (Contains (sent s r) (t, b))
    nowhere None m = not_Contains-nil (t, b) m
    nowhere (Some a) m = let p = (one_sent s t a b m).0 in
        let g : site_at old.sites t ≡ None = subst (λ r. site_at old.sites r ≡ None) (sym p) gone in
        absurd cc

pub offered_kept : {n : ℕ} {events : List Event} {offers : List (ℕ × Op)} {world : WorldState}
    → IsWorld n events offers world → (s : ℕ) (a : Op) (x : SiteState) → Contains offers (s, a)
    → site_at world.sites s ≡ Some x → Keeps x a
offered_kept start s a x m q = absurd (not_Contains-nil (s, a) m)
offered_kept (next {offers} {old} {new = after} {e} w h) s a x m q =
    elim (Contains-append_cases offers (offer_in old.messages e) (s, a) m) [
      | inl k ↦ let f = came old after e s x h q in f.keeps a (offered_kept w s a f.from k f.at)
      | inr k ↦ now_kept old after e s a x h k q
    ]

-- a site of a world that was offered all messages of the others has all, once nothing held is ready
pub world_settled : {n : ℕ} {events : List Event} {offers : List (ℕ × Op)} {world : WorldState}
    → IsWorld n events offers world → (s : ℕ) (x : SiteState) → site_at world.sites s ≡ Some x →
    HasHeardAll world offers s x → HaveSame x.ops world.messages
world_settled {world} w s x at told =
    let sound = world_sound w in
    let site = sound.sites s x at in
    let d : IsDelivery world.messages x.ops = record {
      from_offered = site.has;
      once = (course_valid site.course).distinct;
      in_turn = course_ready site.course;
    } in
    settled world.messages x sound.valid d (λ a m. elim (cases_eq a.id.site s) [
      | inl e ↦ inr (site.own a m e)
      | inr o ↦ offered_kept w s a x (told.offered a m o) at
    ]) told.idle

-- ---- one site

-- what a site keeps that is offered operations of h
record IsFed (h offers : List Op) (x : SiteState) : Type 0 where
  delivery : IsDelivery h x.ops
  holds : (a : Op) → Contains x.held a → Contains h a
  all : (a : Op) → Contains offers a → Keeps x a

fed_start : (n : ℕ) (h : List Op) → IsFed h [] (new_site n)
fed_start n h = record {
  delivery = record {
    from_offered = λ a m. absurd (not_Contains-nil a m);
    once = λ i j d l m. absurd (omega arith);
    in_turn = ready_none;
  };
  holds = λ a m. absurd (not_Contains-nil a m);
  all = λ a m. absurd (not_Contains-nil a m);
}

fed_offer : (h offers : List Op) (x y : SiteState) (a : Op) → IsFed h offers x → Contains h a
    → Receives x a y → IsFed h (offers ++ a ∷ []) y
fed_offer h offers x y a f there (already k) = record {
  delivery = f.delivery;
  holds = f.holds;
  all = λ b m. elim (Contains-push_cases offers a b m) [
    | inl l ↦ f.all b l
    | inr e ↦ subst (Keeps x) e k
  ];
}
fed_offer h offers x y a f there (holds {more} n adds) = record {
  delivery = f.delivery;
  holds = λ b m. elim (Contains-between_cases adds.before a adds.after b
      (subst (λ l. Contains l b) adds.with_it m)) [
        | inl e ↦ subst (Contains h) (sym e) there
        | inr k ↦ f.holds b (subst (λ l. Contains l b) (sym adds.without) k)
      ];
  all = λ b m. elim (Contains-push_cases offers a b m) [
    | inl l ↦ receives_keep x (record x { held = more }) a b (holds n adds) (f.all b l)
    | inr e ↦ subst (Keeps (record x { held = more })) e
        (receives_has x (record x { held = more }) a (holds n adds))
  ];
}

fed_applies : (h offers : List Op) (x y : SiteState) (i : OpId) → IsFed h offers x → Applies x i y
    → IsFed h offers y
fed_applies h offers x y i f t =
    let first = t.0.takes.first in
    let grown = delivery-push h x.ops t.0.op f.delivery (f.holds t.0.op first.contained)
    first.ready in
    record {
      delivery = subst (IsDelivery h) (sym t.0.ops) grown;
      holds = λ a m. f.holds a (taken_from y.held t.0.op x.held t.0.takes.taken a m);
      all = λ a m. applies_keep x y i a t (f.all a m);
    }

-- a site that is offered operations of a valid history drops none
fed_drops : (h offers : List Op) (x y : SiteState) (i : OpId) (f : OpFault) → IsValid h
    → IsFed h offers x → ¬ (ForgetsReady x i f y)
fed_drops h offers x y i f valid k d =
    let first = d.0.takes.first in
    not_refused x.ops d.0.op f (part_accepts h x.ops valid k.delivery.from_offered
    k.delivery.in_turn d.0.op (k.holds d.0.op first.contained) first.ready) d.0.refused

fed_steps : (h offers : List Op) (x y : SiteState) (s : Step) → IsValid h → IsFed h offers x
    → Steps x s y → IsFed h offers y
fed_steps h offers x y (Applied i) valid f t = fed_applies h offers x y i f t
fed_steps h offers x y (Dropped i g) valid f t = absurd (fed_drops h offers x y i g valid f t)
fed_steps h offers x y Idle valid f t = subst (IsFed h offers) (sym (same_site x y t.0.1 t.1)) f

fed : {n : ℕ} {h offers : List Op} {x : SiteState} → IsValid h → IsOffered n h offers x
    → IsFed h offers x
fed {n} {h} valid new = fed_start n h
fed {h} valid (offer {offers} {old} {new = y} {a} o there r) = fed_offer h offers old y a
    (fed valid o) there r
fed {h} valid (step {offers} {old} {new = y} s o t) = fed_steps h offers old y s valid (fed valid o)
    t

pub offered_settled : {n : ℕ} {h offers : List Op} {x : SiteState} → IsValid h
    → IsOffered n h offers x → ((a : Op) → Contains h a → Contains offers a)
    → NoneIsReady x.ops x.held → HaveSame x.ops h
offered_settled {h} {x} valid o all quiet = let f = fed valid o in
    settled h x valid f.delivery (λ a m. f.all a (all a m)) quiet

pub offered_not_dropped : {n : ℕ} {h offers : List Op} {x : SiteState} → IsValid h
    → IsOffered n h offers x → (i : OpId) (f : OpFault) (y : SiteState) → ¬ (ForgetsReady x i f y)
offered_not_dropped {h} {offers} {x} valid o i f y = fed_drops h offers x y i f valid (fed valid o)
