-- What is offered behind the last change is among the offers of a world.
use Rattle.std.proofs.Common.{◌≡◌, ℕ, List, [], ◌∷◌, ◌++◌, Some, inl, inr, refl, sym, ap, ◌∙◌}
use Rattle.std.proofs.Common.{subst}
use Rattle.std.specs.Prelude.{Contains, slice_get}
use Rattle.std.proofs.lemmas.List.Elements.{Contains-append_left, Contains-append_right}
use Rattle.std.proofs.lemmas.List.Elements.{Contains-push}
use Rattle.gf_ops.specs.declared.op.Op.{Op}
use Rattle.gf_ops.specs.declared.change.Change.{Change}
use Rattle.gf_base.proofs.ListLemmas.{Contains-cons_head}
use Rattle.gf_replicas.specs.declared.event.Event.{Event}
use Rattle.gf_replicas.specs.declared.event.Event.TheVariants.{Author, Offer}
use Rattle.gf_replicas.specs.Settled.{IsOfferedLast}
use Rattle.gf_replicas.specs.World.{WorldState, Happens, authors, refuses, receives, no_message}
use Rattle.gf_replicas.specs.World.{applies, idle, no_site, sent, offer_in, IsWorld, start, next}
use Rattle.gf_replicas.proofs.CutLemmas.{not_inside, last_view}

-- an event that is no change makes no message
same_messages : {old new : WorldState} {e : Event} → Happens old e new
    → ((t : ℕ) (c : Change) → ¬ (e ≡ Author t c)) → new.messages ≡ old.messages
same_messages (authors {s} {c} at made) n = absurd (n s c refl)
same_messages (refuses at why not) n = refl
same_messages (receives at m r) n = refl
same_messages (no_message m) n = refl
same_messages (applies at a) n = refl
same_messages (idle at i) n = refl
same_messages (no_site i) n = refl

pub offered_last : {n : ℕ} {events : List Event} {offers : List (ℕ × Op)} {w : WorldState}
    → IsWorld n events offers w → (s m : ℕ) (a : Op) → IsOfferedLast events s m →
    slice_get w.messages m ≡ Some a → Contains offers (s, a)
offered_last start s m a last at = absurd (not_inside last.before (Offer s m) last.after
    last.events_are)
offered_last (next {events = events} {offers = offers} {old = old} {new = new} {e = e} world
    happens) s m a last at =
    elim (last_view events last.before (Offer s m) e last.after last.events_are) [
      | inl l ↦
          let same : new.messages ≡ old.messages = same_messages happens
          (λ t c k. let q : Offer s m ≡ Author t c = sym l.same ∙ k in absurd cc) in
          let there : slice_get old.messages m ≡ Some a = subst (λ h. slice_get h m ≡ Some a) same
          at in
          let offer : offer_in old.messages e ≡ (s, a) ∷ [] = ap (offer_in old.messages) l.same
          ∙ ap (sent s) there in
          Contains-append_right offers (offer_in old.messages e) (s, a)
          (subst (λ os. Contains os (s, a)) (sym offer) (Contains-cons_head (s, a) []))
      | inr l ↦
          let none : (t : ℕ) (c : Change) → ¬ (e ≡ Author t c) = λ t c k. last.no_change t c
          (subst (λ es. Contains es (Author t c)) (sym l.rest_is)
          (subst (Contains (l.left ++ e ∷ [])) k (Contains-push l.left e))) in
          let same : new.messages ≡ old.messages = same_messages happens none in
          let earlier : IsOfferedLast events s m = record {
            before = last.before;
            after = l.left;
            events_are = l.whole;
            no_change = λ t c k. last.no_change t c
                (subst (λ es. Contains es (Author t c)) (sym l.rest_is)
                (Contains-append_left l.left (e ∷ []) (Author t c) k));
          } in
          Contains-append_left offers (offer_in old.messages e) (s, a)
          (offered_last world s m a earlier (subst (λ h. slice_get h m ≡ Some a) same at))
    ]
