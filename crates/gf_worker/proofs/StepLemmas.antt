-- A worker goes on when its site steps.
use Rattle.std.proofs.Common.{◌≡◌, ◌<◌, true, false, List, [], ◌∷◌, ◌++◌, length, length-append}
use Rattle.std.proofs.Common.{inl, inr, refl, sym, ap, ◌∙◌, subst, true≢false, arith}
use Rattle.std.specs.Prelude.{Contains}
use Rattle.std.proofs.lemmas.List.Elements.{Contains-append_left, Contains-push}
use Rattle.std.proofs.lemmas.List.Elements.{Contains-push_cases}
use Rattle.gf_ops.specs.declared.op.Op.{Op}
use Rattle.gf_ops.specs.declared.faults.OpFault.{OpFault}
use Rattle.gf_ops.specs.declared.faults.OpFault.TheVariants.{BadClock, NoObject, WrongKind, BadAim}
use Rattle.gf_ops.specs.OperationOrder.{IsSite}
use Rattle.gf_ops.specs.ValidHistory.{IsValid}
use Rattle.gf_ops.specs.Accepted.{IsAccepted, IsRefused, AreAccepted}
use Rattle.gf_ops.proofs.HistoryLemmas.{site_in_range}
use Rattle.gf_causal.specs.Ready.{IsReady, NoneIsReady}
use Rattle.gf_causal.specs.DeliveredPart.{AreReady}
use Rattle.gf_causal.specs.HeldOperations.{Adds}
use Rattle.gf_causal.proofs.ListLemmas.{Contains-between, Contains-between_cases}
use Rattle.gf_site.specs.ReplicaState.{ReplicaState}
use Rattle.gf_site.specs.SiteState.{SiteState}
use Rattle.gf_site.specs.Events.{Steps}
use Rattle.gf_site.specs.Course.{next}
use Rattle.gf_site.specs.declared.replica.Step.{Step}
use Rattle.gf_site.specs.declared.replica.Step.TheVariants as step
use Rattle.gf_causal.proofs.PartLemmas.{part_accepts}
use Rattle.gf_site.proofs.CourseLemmas.{all_ready, course_ready}
use Rattle.gf_site.proofs.StepLemmas.{founded, same_site}
use Rattle.gf_json.specs.declared.scripts.Command.{Command}
use Rattle.gf_worker.specs.declared.work.Work.{Work}
use Rattle.gf_worker.specs.Coming.{HasCome}
use Rattle.gf_worker.specs.Working.{Gathers, IsUnderway, Continues, goes_on}
use Rattle.gf_worker.proofs.CourseLemmas.{comes_after}
use Rattle.gf_worker.proofs.TurnLemmas.{own_other, played_more}
use Rattle.gf_worker.proofs.HearLemmas.{continues_refl}

-- ---- an operation is added

module _ (old : Work) (a : Op) (held : List Op) (site : IsSite old.site.number)
    (there : Contains old.site.held a) (proper : IsSite a.id.site)
    (taken : Adds held a old.site.held)
    (accepted : IsAccepted old.site.ops a) (valid : IsValid (old.site.ops ++ a ∷ [])) where
  abbrev applied : Work
  applied = record old {
    site = record {
      number = old.site.number;
      ops = old.site.ops ++ a ∷ [];
      held = held;
    };
  }

  less : (x : Op) → Contains held x → Contains old.site.held x
  less x c = subst (λ l. Contains l x) (sym taken.with_it)
      (Contains-between taken.before a taken.after x (subst (λ l. Contains l x) taken.without c))

  gathers_applied : Gathers old → Gathers applied
  gathers_applied g = record {
    has = λ x c d. elim (Contains-push_cases old.site.ops a x c) [
      | inl k ↦ g.has x k d
      | inr e ↦ subst (HasCome old.peers.items) e (g.holds a there).1
    ];
    holds = λ x c. g.holds x (less x c);
    keeps = λ e h w x c d. elim (g.keeps e h
        (record {
          valid = w.valid;
          has = λ b m. w.has b (Contains-append_left old.site.ops (a ∷ []) b m);
          come = w.come;
        }) x c d) [
          | inl k ↦ inl (Contains-append_left old.site.ops (a ∷ []) x k)
          | inr k ↦ elim (Contains-between_cases taken.before a taken.after x
              (subst (λ l. Contains l x) taken.with_it k)) [
                | inl q ↦ inl (subst (Contains (old.site.ops ++ a ∷ [])) (sym q)
                    (Contains-push old.site.ops a))
                | inr m ↦ inr (subst (λ l. Contains l x) (sym taken.without) m)
              ]
        ];
  }

  underway_applied : (commands : List Command) → Gathers old → IsUnderway commands old
      → IsUnderway commands applied
  unfolding played_more
  underway_applied commands g u =
      let foreign = (g.holds a there).0 in record {
        course = next a u.course valid (λ e. absurd (foreign e));
        played = played_more old.site.number commands old.site.ops old.report a u.played foreign
            (λ t c e k.
            let w = u.played.right t c in
            let q = u.silent t c e in
            comes_after old.site.number t.before w.later a q.ready
            (subst AreReady w.whole (course_ready u.course)) site
            (subst (λ l. IsAccepted l a) w.whole accepted) k proper (q.none a there));
        silent = λ t c e. let q = u.silent t c e in record {
          ended = q.ended;
          none = λ x k. q.none x (less x k);
          ready = q.ready;
        };
      }

  pub continues_applied : Continues old applied
  continues_applied = record {
    placed = λ links p. p;
    seats = refl;
    sends = refl;
    number = refl;
    made = λ g. own_other old.site.number old.site.ops a (g.holds a there).0;
    short = λ e. e;
    gathers = gathers_applied;
    underway = underway_applied;
  }

-- ---- an operation is forgotten

not_accepted : (h : List Op) (a : Op) (f : OpFault) → IsRefused h a f → ¬ (IsAccepted h a)
not_accepted h a BadClock r c = r c.next
not_accepted h a NoObject r c = r.1 (founded h a a.change c.suited)
not_accepted h a WrongKind r c = r.2 c.suited
not_accepted h a BadAim r c = r.2 c.aimed

module _ (old : Work) (a : Op) (held : List Op) (f : OpFault) (taken : Adds held a old.site.held)
    (there : Contains old.site.held a) (ready : IsReady old.site.ops a)
    (all : AreReady old.site.ops)
    (refused : IsRefused old.site.ops a f) where
  abbrev dropped : Work
  dropped = record old {
    site = record {
      number = old.site.number;
      ops = old.site.ops;
      held = held;
    };
  }

  less_held : (x : Op) → Contains held x → Contains old.site.held x
  less_held x c = subst (λ l. Contains l x) (sym taken.with_it)
      (Contains-between taken.before a taken.after x (subst (λ l. Contains l x) taken.without c))

  gathers_dropped : Gathers old → Gathers dropped
  gathers_dropped g = record {
    has = g.has;
    holds = λ x c. g.holds x (less_held x c);
    keeps = λ e h w x c d. elim (g.keeps e h w x c d) [
      | inl k ↦ inl k
      | inr k ↦ elim (Contains-between_cases taken.before a taken.after x
          (subst (λ l. Contains l x) taken.with_it k)) [
            | inl q ↦ absurd (not_accepted old.site.ops a f refused
                (part_accepts h old.site.ops w.valid w.has all a (w.come a (g.holds a there).1)
                ready))
            | inr m ↦ inr (subst (λ l. Contains l x) (sym taken.without) m)
          ]
    ];
  }

  pub continues_dropped : Continues old dropped
  continues_dropped = record {
    placed = λ links p. p;
    seats = refl;
    sends = refl;
    number = refl;
    made = λ g. refl;
    short = λ e. e;
    gathers = gathers_dropped;
    underway = λ cs g u. record {
      course = u.course;
      played = u.played;
      silent = λ t c e. let q = u.silent t c e in record {
        ended = q.ended;
        none = λ x k. q.none x (less_held x k);
        ready = q.ready;
      };
    };
  }

-- ---- a step

pub continues_stepping : (old : Work) (st : Step) (new : SiteState) → IsSite new.number
    → AreAccepted new.ops → IsValid new.ops → Steps old.site st new
    → Continues old (record old { site = new })
continues_stepping old (step.Applied i) new site run valid t =
    let a = t.0.op in
    let k = t.0.takes in
    let is : record {
      number = old.site.number;
      ops = old.site.ops ++ a ∷ [];
      held = new.held;
    } ≡ new = λ j. record { number = sym t.1 j; ops = sym t.0.ops j; held = new.held } in
    subst (λ n. Continues old (record old { site = n })) is
    (continues_applied old a new.held (subst IsSite t.1 site) k.first.contained
    (site_in_range a k.in_range) k.taken t.0.accepted (subst IsValid t.0.ops valid))
continues_stepping old (step.Dropped i f) new site run valid t =
    let a = t.0.op in
    let k = t.0.takes in
    let is : record { number = old.site.number; ops = old.site.ops; held = new.held } ≡ new = λ j.
    record { number = sym t.1 j; ops = sym t.0.ops j; held = new.held } in
    subst (λ n. Continues old (record old { site = n })) is
    (continues_dropped old a new.held f k.taken k.first.contained k.first.ready
    (all_ready (subst AreAccepted t.0.ops run)) t.0.refused)
continues_stepping old step.Idle new site run valid t = subst
    (λ n. Continues old (record old { site = n })) (sym (same_site old.site new t.0.1 t.1))
    (continues_refl old)

-- a worker becomes short
pub continues_short : (old : Work) (new : SiteState) → new ≡ old.site
    → Continues old (record old { site = new; short = true })
continues_short old new e = subst (λ n. Continues old (record old { site = n; short = true }))
    (sym e) (record {
      placed = λ links p. p;
      seats = refl;
      sends = refl;
      number = refl;
      made = λ g. refl;
      short = λ q. absurd (true≢false q);
      gathers = λ g. record { has = g.has; holds = g.holds; keeps = λ q. absurd (true≢false q) };
      underway = λ cs g u. record {
        course = u.course;
        played = u.played;
        silent = λ t c q. let k = u.silent t c q in record {
          ended = k.ended;
          none = k.none;
          ready = k.ready;
        };
      };
    })

-- nothing is ready behind an idle step
pub idle_step : (old : SiteState) (st : Step) (new : SiteState) → goes_on st ≡ false
    → Steps old st new → NoneIsReady new.ops new.held
idle_step old (step.Applied i) new e t = absurd (true≢false e)
idle_step old (step.Dropped i f) new e t = absurd (true≢false e)
idle_step old step.Idle new e t = subst (λ (n : ReplicaState). NoneIsReady n.ops n.held) (sym t.0.1)
    t.0.0

-- with each other step one operation less is held
shorter : (held all : List Op) (a : Op) → Adds held a all → length held < length all
shorter held all a t =
    let x = ap length t.without ∙ length-append t.before t.after in
    let y = ap length t.with_it ∙ length-append t.before (a ∷ t.after) in omega (arith, x, y)

pub fewer_held : (old : SiteState) (st : Step) (new : SiteState) → goes_on st ≡ true
    → Steps old st new → length new.held < length old.held
fewer_held old (step.Applied i) new e t = shorter new.held old.held t.0.op t.0.takes.taken
fewer_held old (step.Dropped i f) new e t = shorter new.held old.held t.0.op t.0.takes.taken
fewer_held old step.Idle new e t = absurd (true≢false (sym e))
