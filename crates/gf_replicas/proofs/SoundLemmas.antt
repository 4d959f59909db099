-- Every world is sound: its messages are a valid history, and each site has a course of them with
-- all of its own.
use Rattle.std.proofs.Common.{◌≡◌, ◌≢◌, ℕ, ◌+◌, ◌≤◌, List, [], ◌∷◌, ◌++◌, Some, inl, inr, refl, sym}
use Rattle.std.proofs.Common.{ap, subst, ◌∙◌, arith}
use Rattle.std.specs.Prelude.{Contains}
use Rattle.std.proofs.lemmas.Bool.{cases_lt}
use Rattle.std.proofs.lemmas.List.Elements.{Contains-append_left, Contains-push}
use Rattle.std.proofs.lemmas.List.Elements.{Contains-push_cases}
use Rattle.gf_ops.specs.declared.op.Op.{Op}
use Rattle.gf_ops.specs.declared.op.OpId.{OpId}
use Rattle.gf_ops.specs.declared.change.Change.{Change}
use Rattle.gf_ops.specs.declared.change.Change.TheVariants.{Create, Set}
use Rattle.gf_ops.specs.KnownObject.{IsSuited}
use Rattle.gf_ops.specs.OperationOrder.{clock_of, entry, count_of}
use Rattle.gf_ops.specs.Accepted.{IsAccepted, AreAccepted, none, next}
use Rattle.gf_ops.specs.ValidHistory.{IsValid}
use Rattle.gf_ops.proofs.AimedLemmas.{aimed_beyond}
use Rattle.gf_ops.proofs.HistoryLemmas.{site_in_range, seq_in_range}
use Rattle.gf_ops.proofs.ValidityLemmas.{same_op, suited_beyond}
use Rattle.gf_base.proofs.PositionLemmas.{position_in}
use Rattle.gf_causal.specs.HeldOperations.{Adds}
use Rattle.gf_causal.proofs.CourseLemmas.{has_counted, number_counted, count_within, same_id}
use Rattle.gf_causal.proofs.ListLemmas.{Contains-between, Contains-between_cases}
use Rattle.gf_replicas.specs.declared.event.Event.{Event}
use Rattle.gf_site.specs.SiteState.{SiteState}
use Rattle.gf_site.specs.Events.{Authors, Applies}
use Rattle.gf_site.specs.Course.{none as course_none, next as course_next}
use Rattle.gf_replicas.specs.World.{WorldState, new_sites, site_at, with_site, Receives, already}
use Rattle.gf_replicas.specs.World.{holds, Happens, authors, refuses, receives, no_message, applies}
use Rattle.gf_replicas.specs.World.{idle, no_site, IsWorld, start, next as world_next}
use Rattle.gf_replicas.specs.Sound.{IsSiteOf, IsSound}
use Rattle.gf_site.proofs.AuthorLemmas.{entry-clock_of}
use Rattle.gf_site.proofs.CourseLemmas.{all_ready, course_accepted, course_ready}
use Rattle.gf_site.proofs.ValidLemmas.{valid_nil, valid_push, fresh_id, course_valid}
use Rattle.gf_replicas.proofs.SitesLemmas.{new_at, site_cases}

-- ---- what a site adds

-- a site that adds a message that is accepted, and knows all before it if it is its own
site_adds : (messages : List Op) (s : ℕ) (x : SiteState) (a : Op) (more : List Op)
    → IsSiteOf messages s x → Contains messages a → IsAccepted x.ops a → IsValid (x.ops ++ a ∷ []) →
    (a.id.site ≡ s → a.past ≡ clock_of x.ops) → ((b : Op) → Contains more b → Contains x.held b)
    → IsSiteOf messages s (record { number = x.number; ops = x.ops ++ a ∷ []; held = more })
site_adds messages s x a more w there accepted valid past from = record {
  number = w.number;
  course = course_next a w.course valid past;
  has = λ b m. elim (Contains-push_cases x.ops a b m) [
    | inl k ↦ w.has b k
    | inr e ↦ subst (Contains messages) e there
  ];
  holds = λ b m. w.holds b (from b m);
  own = λ b m e. Contains-append_left x.ops (a ∷ []) b (w.own b m e);
}

-- what is held goes on being so, and a message is put among it
site_holds : (messages : List Op) (s : ℕ) (x : SiteState) (a : Op) (more : List Op)
    → IsSiteOf messages s x → Contains messages a → Adds x.held a more
    → IsSiteOf messages s (record x { held = more })
site_holds messages s x a more w there adds = record {
  number = w.number;
  course = w.course;
  has = w.has;
  holds = λ b m. elim (Contains-between_cases adds.before a adds.after b
      (subst (λ l. Contains l b) adds.with_it m)) [
        | inl e ↦ subst (Contains messages) (sym e) there
        | inr k ↦ w.holds b (subst (λ l. Contains l b) (sym adds.without) k)
      ];
  own = w.own;
}

site_receives : (messages : List Op) (s : ℕ) (x y : SiteState) (a : Op) → IsSiteOf messages s x
    → Contains messages a → Receives x a y → IsSiteOf messages s y
site_receives messages s x y a w there (already k) = w
site_receives messages s x y a w there (holds {more} n adds) = site_holds messages s x a more w
    there adds

-- what was taken out of the held operations
pub taken_from : (less : List Op) (a : Op) (all : List Op) → Adds less a all → (b : Op)
    → Contains less b → Contains all b
taken_from less a all adds b m = subst (λ l. Contains l b) (sym adds.with_it)
    (Contains-between adds.before a adds.after b (subst (λ l. Contains l b) adds.without m))

-- a ready operation of a course is none of it
not_own : (messages : List Op) (s : ℕ) (x : SiteState) (a : Op) → IsSiteOf messages s x
    → Contains messages a → IsAccepted x.ops a → a.id.site ≢ s
not_own messages s x a w there accepted e = fresh_id x.ops (course_ready w.course) a accepted a
    (w.own a there e) refl

site_applies : (messages : List Op) (s : ℕ) (x y : SiteState) (i : OpId) → IsSiteOf messages s x
    → Applies x i y → IsSiteOf messages s y
site_applies messages s x y i w t =
    let a = t.0.op in
    let k = t.0.takes in
    let there = w.holds a k.first.contained in
    let valid = valid_push x.ops (course_accepted w.course) (course_valid w.course) a k.in_range
    t.0.accepted in
    let sound = site_adds messages s x a y.held w there t.0.accepted valid
    (λ e. absurd (not_own messages s x a w there t.0.accepted e))
    (taken_from y.held a x.held k.taken) in
    subst (IsSiteOf messages s)
    (λ j. record { number = sym t.1 j; ops = sym t.0.ops j; held = y.held }) sound

-- ---- what a site makes

-- a site is one of a world with one more message of another site
site_more : (messages : List Op) (a : Op) (t : ℕ) (x : SiteState) → IsSiteOf messages t x
    → t ≢ a.id.site → IsSiteOf (messages ++ a ∷ []) t x
site_more messages a t x w other = record {
  number = w.number;
  course = w.course;
  has = λ b m. Contains-append_left messages (a ∷ []) b (w.has b m);
  holds = λ b m. Contains-append_left messages (a ∷ []) b (w.holds b m);
  own = λ b m e. elim (Contains-push_cases messages a b m) [
    | inl k ↦ w.own b k e
    | inr p ↦ absurd (other (sym (ap (λ (c : Op). c.id.site) p ∙ e)))
  ];
}

module _ (messages : List Op) (valid : IsValid messages) (run : AreAccepted messages) (s : ℕ)
    (x : SiteState) (w : IsSiteOf messages s x) (a : Op) (site : a.id.site ≡ s)
    (accepted : IsAccepted x.ops a) (past : a.past ≡ clock_of x.ops) where
  -- the site has as many operations of its own as there are messages of it
  all_own : count_of messages s ≡ count_of x.ops s
  all_own =
      let few = count_within (course_ready w.course) (all_ready run) w.has s in
      elim (cases_lt 0 (count_of messages s)) [
        | inl m ↦
            let t = has_counted (all_ready run) (record { site = s; seq = count_of messages s }) m
            (omega arith) in
            let l = number_counted (course_ready w.course) t.op (w.own t.op t.contained t.site) in
            let n = subst (λ r. t.op.id.seq ≤ count_of x.ops r) t.site l in
            let e = t.seq in omega arith
        | inr m ↦ omega arith
      ]

  -- a message that it knows is in its list
  knows : (b : Op) → Contains messages b → b.id.seq ≤ entry a.past b.id.site → Contains x.ops b
  knows b m before =
      let r = valid.in_range b m in
      let e = entry-clock_of x.ops b.id.site (site_in_range b r) in
      let k : entry a.past b.id.site ≡ entry (clock_of x.ops) b.id.site = ap
      (λ c. entry c b.id.site) past in
      let t = has_counted (course_ready w.course) b.id (seq_in_range b r).0 (omega arith) in
      subst (Contains x.ops) (same_op messages valid t.op b (w.has t.op t.contained) m
      (same_id t.op b t.site t.seq)) t.contained

  accepted_more : IsAccepted messages a
  accepted_more = record {
    next = record {
      numbered = record {
        seq = let q = subst (λ r. a.id.seq ≡ count_of x.ops r + 1) site
            accepted.next.numbered.seq in let e = all_own in
            subst (λ r. a.id.seq ≡ count_of messages r + 1) (sym site)
            (let z : a.id.seq ≡ count_of messages s + 1 = omega arith in z);
        own = accepted.next.numbered.own;
      };
      known = λ t i.
          let k = accepted.next.known t i in
          let m = count_within (course_ready w.course) (all_ready run) w.has t in omega arith;
      closed = λ b m before. accepted.next.closed b (knows b m before) before;
    };
    suited = suited_beyond x.ops messages w.has a a.change accepted.suited;
    aimed = aimed_beyond messages x.ops (λ b d m n e. same_op messages valid b d m n e) w.has a
        accepted.aimed;
  }

-- ---- the world

sound_authors : (world : WorldState) (s : ℕ) (c : Change) (x y : SiteState) (a : Op) → IsSound world
    → site_at world.sites s ≡ Some x → Authors x c a y →
    IsSound (record { sites = with_site world.sites s y; messages = world.messages ++ a ∷ [] })
sound_authors world s c x y a sound at made =
    let w = sound.sites s x at in
    let site : a.id.site ≡ s = ap (λ (b : Op). b.id.site) made.is ∙ w.number in
    let past : a.past ≡ clock_of x.ops = ap (λ (b : Op). b.past) made.is in
    let more = accepted_more world.messages sound.valid sound.accepted s x w a site made.accepted
    past in
    let grown : IsSiteOf (world.messages ++ a ∷ []) s y =
    let valid = valid_push x.ops (course_accepted w.course) (course_valid w.course) a made.in_range
    made.accepted in
    subst (IsSiteOf (world.messages ++ a ∷ []) s) (sym made.state) (record {
      number = w.number;
      course = course_next a w.course valid (λ e. past);
      has = λ b m. elim (Contains-push_cases x.ops a b m) [
        | inl k ↦ Contains-append_left world.messages (a ∷ []) b (w.has b k)
        | inr e ↦ subst (Contains (world.messages ++ a ∷ [])) e (Contains-push world.messages a)
      ];
      holds = λ b m. Contains-append_left world.messages (a ∷ []) b (w.holds b m);
      own = λ b m e. elim (Contains-push_cases world.messages a b m) [
        | inl k ↦ Contains-append_left x.ops (a ∷ []) b (w.own b k e)
        | inr p ↦ subst (Contains (x.ops ++ a ∷ [])) p (Contains-push x.ops a)
      ];
    })
    in
    record {
      valid = valid_push world.messages sound.accepted sound.valid a made.in_range more;
      accepted = next sound.accepted more;
      sites = λ t z e. elim (site_cases world.sites s t x y z at e) [
        | inl p ↦ subst (λ r. IsSiteOf (world.messages ++ a ∷ []) r z) (sym p.0)
            (subst (IsSiteOf (world.messages ++ a ∷ []) s) (sym p.1) grown)
        | inr p ↦ site_more world.messages a t z (sound.sites t z p.1) (λ q. p.0 (q ∙ site))
      ];
    }

-- a site of the world came to another state
sound_site : (world : WorldState) (s : ℕ) (x y : SiteState) → IsSound world
    → site_at world.sites s ≡ Some x → IsSiteOf world.messages s y
    → IsSound (record world { sites = with_site world.sites s y })
sound_site world s x y sound at w = record {
  valid = sound.valid;
  accepted = sound.accepted;
  sites = λ t z e. elim (site_cases world.sites s t x y z at e) [
    | inl p ↦ subst (λ r. IsSiteOf world.messages r z) (sym p.0)
        (subst (IsSiteOf world.messages s) (sym p.1) w)
    | inr p ↦ sound.sites t z p.1
  ];
}

sound_next : (old new : WorldState) (e : Event) → IsSound old → Happens old e new → IsSound new
sound_next old new e sound (authors {s} {c} {x} {y} {a} at made) = sound_authors old s c x y a sound
    at made
sound_next old new e sound (refuses at r n) = sound
sound_next old new e sound (receives {s} {m} {x} {y} {a} at there r) =
    sound_site old s x y sound at (site_receives old.messages s x y a (sound.sites s x at)
    (position_in old.messages m a there) r)
sound_next old new e sound (no_message m) = sound
sound_next old new e sound (applies {s} {x} {y} {i} at t) = sound_site old s x y sound
    at (site_applies old.messages s x y i (sound.sites s x at) t)
sound_next old new e sound (idle at n) = sound
sound_next old new e sound (no_site m) = sound

sound_start : (n : ℕ) → IsSound (record { sites = new_sites n; messages = [] })
sound_start n = record {
  valid = valid_nil;
  accepted = none;
  sites = λ s x e. subst (IsSiteOf [] s) (sym (new_at n s x e)) (record {
    number = refl;
    course = course_none;
    has = λ a m. m;
    holds = λ a m. m;
    own = λ a m e. m;
  });
}

pub world_sound : {n : ℕ} {events : List Event} {offers : List (ℕ × Op)} {world : WorldState}
    → IsWorld n events offers world → IsSound world
world_sound {n} start = sound_start n
world_sound (world_next {old} {new} {e} w h) = sound_next old new e (world_sound w) h
