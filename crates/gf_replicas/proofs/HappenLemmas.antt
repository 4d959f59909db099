-- What the calls on one site make of the world.
use Rattle.std.proofs.Common.{Bor, ◌≡◌, ◌≢◌, Option, ℕ, suc, ◌+◌, List, [], ◌∷◌, ◌++◌, Some, None}
use Rattle.std.proofs.Common.{Ok, Err, inl, inr, refl, sym, ap, subst, ◌∙◌, add-one, get_or, length}
use Rattle.std.proofs.Common.{◌<◌}
use Rattle.std.specs.Prelude.{◌↔◌, Result, OnOk, Contains, slice_get, slice_set, option_copied}
use Rattle.std.proofs.lemmas.Option.{slice_get_read}
use Rattle.gf_ops.specs.declared.op.Op.{Op}
use Rattle.gf_ops.specs.declared.op.OpId.{OpId}
use Rattle.gf_ops.specs.declared.faults.OpFault.{OpFault}
use Rattle.gf_ops.specs.declared.change.Change.{Change}
use Rattle.gf_ops.specs.Limits.{IsInRange}
use Rattle.gf_ops.specs.ValidHistory.{IsValid}
use Rattle.gf_ops.proofs.ValidityLemmas.{same_op}
use Rattle.gf_base.proofs.PositionLemmas.{position_in, set_itself}
use Rattle.gf_causal.specs.declared.buffer.Offered.{Offered}
use Rattle.gf_causal.specs.declared.buffer.Offered.TheVariants.{Already, Held}
use Rattle.gf_causal.specs.declared.faults.OfferFault.{OfferFault}
use Rattle.gf_causal.specs.declared.faults.OfferFault.TheVariants.{Range, Clash, OutOfMemory}
use Rattle.gf_causal.specs.HeldOperations.{HasOther, IsClash, IsKnown, IsNew, Adds}
use Rattle.gf_causal.proofs.PartLemmas.{part_accepts}
use Rattle.gf_site.specs.declared.faults.AuthorFault.{AuthorFault}
use Rattle.gf_site.specs.declared.faults.AuthorFault.TheVariants as fault
use Rattle.gf_site.specs.declared.replica.Step.{Step}
use Rattle.gf_site.specs.declared.replica.Step.TheVariants.{Applied, Dropped, Idle}
use Rattle.gf_site.specs.SiteState.{SiteState}
use Rattle.gf_site.specs.Events.{Refuses, Authors, Steps, ForgetsReady}
use Rattle.gf_site.proofs.CourseLemmas.{course_ready}
use Rattle.gf_site.proofs.StepLemmas.{not_refused, same_site}
use Rattle.gf_replicas.specs.declared.event.Event.TheVariants.{Author, Offer, Step as step_event}
use Rattle.gf_replicas.specs.World.{WorldState, site_at, with_site, Receives, already, holds}
use Rattle.gf_replicas.specs.World.{Happens, authors, refuses, receives, applies, idle}
use Rattle.gf_replicas.specs.Sound.{IsSiteOf, IsSound}

-- the site with an index
pub stands_at : (sites seen : List SiteState) (k : ℕ) (x : SiteState) → seen ≡ sites
    → k < length seen → x ≡ get_or sites k x → slice_get sites k ≡ Some x
stands_at sites seen k x e l v = slice_get_read sites (length seen) k x (ap length e) l v

-- the message of a number, and none
pub message_there : (messages seen : List Op) (m : ℕ) (r : Option (Bor Op)) (op : Bor Op) (a : Op)
    → seen ≡ messages → option_copied r ≡ slice_get seen m → r ≡ Some op → a ≡ op.now
    → slice_get messages m ≡ Some a
message_there messages seen m r op a e l f g = ap (λ ms. slice_get ms m) (sym e) ∙ sym l
    ∙ ap option_copied f ∙ ap Some (sym g)

pub message_gone : (messages seen : List Op) (m : ℕ) (r : Option (Bor Op)) → seen ≡ messages
    → option_copied r ≡ slice_get seen m → r ≡ None → slice_get messages m ≡ None
message_gone messages seen m r e l f = ap (λ ms. slice_get ms m) (sym e) ∙ sym l
    ∙ ap option_copied f

-- where r is Ok, P gives Q
pub ok_gives : {A E : Type 0} {P Q : Type 0} (r : Result A E) → (P → Q) → OnOk r P → OnOk r Q
ok_gives (Ok v) f p = f p
ok_gives (Err e) f p = tt

-- the messages have no other operation under the id of one of them
no_other : (messages ops : List Op) → IsValid messages
    → ((b : Op) → Contains ops b → Contains messages b) → (a : Op) → Contains messages a
    → ¬ (HasOther ops a)
no_other messages ops valid within a there o = o.differs
    (same_op messages valid o.other a (within o.other o.contained) there o.id)

-- of a message that is offered to a site of theirs, nothing but memory is refused
received : (messages : List Op) (s : ℕ) (x y : SiteState) (a : Op) (r : Result Offered OfferFault)
    → IsValid messages → IsSiteOf messages s x → Contains messages a → r ≢ Err OutOfMemory →
    (r ≡ Err Range ↔ (¬ (IsInRange a))) → (r ≡ Err Clash ↔ (IsInRange a × IsClash x.held x.ops a))
    → (r ≡ Ok Already ↔ (IsInRange a × IsKnown x.held x.ops a)) →
    (r ≡ Ok Held → IsInRange a × IsNew x.held x.ops a × Adds x.held a y.held)
    → (r ≢ Ok Held → y ≡ x) → y ≡ record x { held = y.held } → Receives x a y
received messages s x y a (Ok Held) valid w there m range clash known held same kept = let h = held
    refl in subst (Receives x a) (sym kept) (holds h.1 h.2)
received messages s x y a (Ok Already) valid w there m range clash known held same kept = subst
    (Receives x a) (sym (same (λ q. absurd cc))) (already (known.0 refl).1.known)
received messages s x y a (Err Range) valid w there m range clash known held same kept =
    absurd (range.0 refl (valid.in_range a there))
received messages s x y a (Err Clash) valid w there m range clash known held same kept =
    elim (clash.0 refl).1 [
      | inl o ↦ absurd (no_other messages x.held valid w.holds a there o)
      | inr o ↦ absurd (no_other messages x.ops valid w.has a there o)
    ]
received messages s x y a (Err OutOfMemory) valid w there m range clash known held same kept =
    absurd (m refl)

-- a site of the world drops nothing
never_dropped : (messages : List Op) (s : ℕ) (x y : SiteState) (i : OpId) (f : OpFault)
    → IsValid messages → IsSiteOf messages s x → ¬ (ForgetsReady x i f y)
never_dropped messages s x y i f valid w d =
    let first = d.0.takes.first in
    let accepted = part_accepts messages x.ops valid w.has (course_ready w.course) d.0.op
    (w.holds d.0.op first.contained) first.ready in
    not_refused x.ops d.0.op f accepted d.0.refused

module _ (world : WorldState) (n k : ℕ) (e : n ≡ k + 1) (x y : SiteState)
    (at : slice_get world.sites k ≡ Some x) where
  here : n ≡ suc k
  here = e ∙ add-one k

  there : site_at world.sites n ≡ Some x
  there = subst (λ m. site_at world.sites m ≡ Some x) (sym here) at

  put : with_site world.sites n y ≡ slice_set world.sites k y
  put = ap (λ m. with_site world.sites m y) here

  unchanged : y ≡ x → slice_set world.sites k y ≡ world.sites
  unchanged s = ap (λ z. slice_set world.sites k z) s ∙ set_itself world.sites k x at

  pub authors_here : (c : Change) (a : Op) → Authors x c a y
      → Happens world (Author n c)
      (record { sites = slice_set world.sites k y; messages = world.messages ++ a ∷ [] })
  authors_here c a made = subst
      (λ l. Happens world (Author n c) (record { sites = l; messages = world.messages ++ a ∷ [] }))
      put (authors there made)

  pub refuses_here : (c : Change) (f : AuthorFault) → Refuses x.number x.ops c f
      → f ≢ fault.OutOfMemory → y ≡ x
      → Happens world (Author n c)
      (record { sites = slice_set world.sites k y; messages = world.messages })
  refuses_here c f r m s = subst
      (λ l. Happens world (Author n c) (record { sites = l; messages = world.messages }))
      (sym (unchanged s)) (refuses there r m)

  pub receives_here : (m : ℕ) (a : Op) (r : Result Offered OfferFault) → IsSound world
      → slice_get world.messages m ≡ Some a → r ≢ Err OutOfMemory →
      (r ≡ Err Range ↔ (¬ (IsInRange a))) → (r ≡ Err Clash ↔ (IsInRange a × IsClash x.held x.ops a))
      → (r ≡ Ok Already ↔ (IsInRange a × IsKnown x.held x.ops a)) →
      (r ≡ Ok Held → IsInRange a × IsNew x.held x.ops a × Adds x.held a y.held)
      → (r ≢ Ok Held → y ≡ x) → y ≡ record x { held = y.held } →
      Happens world (Offer n m)
      (record { sites = slice_set world.sites k y; messages = world.messages })
  receives_here m a r sound message full range clash known held same kept =
      let w = sound.sites n x there in
      let got = received world.messages n x y a r sound.valid w
      (position_in world.messages m a message) full range clash known held same kept in
      subst (λ l. Happens world (Offer n m) (record { sites = l; messages = world.messages })) put
      (receives there message got)

  pub steps_here : (s : Step) → IsSound world → Steps x s y
      → Happens world (step_event n)
      (record { sites = slice_set world.sites k y; messages = world.messages })
  steps_here (Applied i) sound t = subst
      (λ l. Happens world (step_event n) (record { sites = l; messages = world.messages })) put
      (applies there t)
  steps_here (Dropped i f) sound t = absurd (never_dropped world.messages n x y i f sound.valid
      (sound.sites n x there) t)
  steps_here Idle sound t = subst
      (λ l. Happens world (step_event n) (record { sites = l; messages = world.messages }))
      (sym (unchanged (same_site x y t.0.1 t.1))) (idle there t.0.0)
