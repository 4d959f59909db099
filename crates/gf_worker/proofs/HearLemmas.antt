-- A worker goes on when operations come.
use Rattle.std.proofs.Common.{◌≡◌, ◌≢◌, ℕ, Bool, true, false, ◌||◌, List, [], ◌∷◌, map, inl, inr}
use Rattle.std.proofs.Common.{refl, sym, ap, subst, ◌∙◌, true≢false, Vec, Global}
use Rattle.std.specs.Prelude.{◌⊎◌, Contains, Result, Ok, Err, IsTrue}
use Rattle.gf_ops.specs.declared.op.Op.{Op}
use Rattle.gf_ops.specs.Limits.{IsInRange}
use Rattle.gf_ops.proofs.ValidityLemmas.{same_op}
use Rattle.gf_base.proofs.ListLemmas.{not_Contains-nil, Contains-cons_cases, Contains-cons_head}
use Rattle.gf_causal.proofs.ListLemmas.{Contains-between, Contains-between_itself}
use Rattle.gf_causal.proofs.ListLemmas.{Contains-between_cases}
use Rattle.gf_causal.specs.declared.buffer.Offered.{Offered}
use Rattle.gf_causal.specs.declared.buffer.Offered.TheVariants.{Already, Held}
use Rattle.gf_causal.specs.declared.faults.OfferFault.{OfferFault}
use Rattle.gf_causal.specs.declared.faults.OfferFault.TheVariants.{Range, Clash, OutOfMemory}
use Rattle.gf_causal.specs.HeldOperations.{IsClash, IsKnown, Adds}
use Rattle.gf_worker.specs.declared.peer.Peer.{Peer}
use Rattle.gf_worker.specs.declared.work.Work.{Work}
use Rattle.gf_worker.specs.Peers.{ArePlaced, all_ended, seat_of}
use Rattle.gf_worker.specs.Coming.{HasCome, IsWhole}
use Rattle.gf_worker.specs.Working.{Gathers, Continues, Hears, ran_out}
use Rattle.gf_worker.proofs.PeerLemmas.{ComesMore}

pub continues_refl : (w : Work) → Continues w w
continues_refl w = record {
  placed = λ links p. p;
  seats = refl;
  sends = refl;
  number = refl;
  made = λ g. refl;
  short = λ e. e;
  gathers = λ g. g;
  underway = λ cs g u. u;
}

pub continues_trans : (u v w : Work) → Continues u v → Continues v w → Continues u w
continues_trans u v w a b = record {
  placed = λ links p. b.placed links (a.placed links p);
  seats = b.seats ∙ a.seats;
  sends = b.sends ∙ a.sends;
  number = b.number ∙ a.number;
  made = λ g. b.made (a.gathers g) ∙ a.made g;
  short = λ e. a.short (b.short e);
  gathers = λ g. b.gathers (a.gathers g);
  underway = λ cs g x. b.underway cs (a.gathers g) (a.underway cs g x);
}

-- peers with the same elements
pub continues_peers : (old : Work) (peers : Vec Peer Global) → peers.items ≡ old.peers.items
    → Continues old (record old { peers = peers })
continues_peers old peers e = record {
  placed = λ links p. subst (ArePlaced links) (sym e) p;
  seats = ap (map seat_of) e;
  sends = ap (map (λ p. p.send)) e;
  number = refl;
  made = λ g. refl;
  short = λ q. q;
  gathers = λ g. record {
    has = λ a c d. subst (λ l. HasCome l a) (sym e) (g.has a c d);
    holds = λ a c. let t = g.holds a c in (t.0, subst (λ l. HasCome l a) (sym e) t.1);
    keeps = λ q h w a c d. g.keeps q h
        (record {
          valid = w.valid;
          has = w.has;
          come = λ b m. w.come b (subst (λ l. HasCome l b) (sym e) m);
        }) a (subst (λ l. HasCome l a) e c) d;
  };
  underway = λ cs g u. record {
    course = u.course;
    played = u.played;
    silent = λ t c q. let k = u.silent t c q in record {
      ended = subst (λ l. IsTrue (all_ended l)) (sym e) k.ended;
      none = k.none;
      ready = k.ready;
    };
  };
}

module _ (old : Work) (peers : Vec Peer Global) (come : List Op) (short : Bool) (held : List Op)
    (more : ComesMore old.peers.items peers.items come)
    (long : short ≡ false → old.short ≡ false)
    (hears : Hears old.site.number old.site.ops old.site.held come short held) where
  abbrev heard : Work
  heard = record {
    site = record old.site { held = held };
    peers = peers;
    report = old.report;
    short = short;
  }

  -- what is unfit is no part of a valid history that has the rest
  fits : (h : List Op) → Gathers old → IsWhole h old.site.ops peers.items → (a : Op)
      → Contains come a → ¬ ((¬ (IsInRange a)) ⊎ IsClash old.site.held old.site.ops a)
  fits h g w a c u =
      let there = w.come a (more.new_one a c) in
      elim u [
        | inl r ↦ r (w.valid.in_range a there)
        | inr k ↦ elim k [
          | inl o ↦ o.differs (same_op h w.valid o.other a
              (w.come o.other (more.stays o.other (g.holds o.other o.contained).1)) there o.id)
          | inr o ↦ o.differs (same_op h w.valid o.other a (w.has o.other o.contained) there o.id)
        ]
      ]

  gathers_more : Gathers old → Gathers heard
  gathers_more g = record {
    has = λ a c d. more.stays a (g.has a c d);
    holds = λ a c. elim (hears.from a c) [
      | inl k ↦ let t = g.holds a k in (t.0, more.stays a t.1)
      | inr k ↦ (k.1, more.new_one a k.0)
    ];
    keeps = λ e h w a c d. elim (more.from a c) [
      | inl k ↦ elim (g.keeps (long e) h
          (record { valid = w.valid; has = w.has; come = λ b m. w.come b (more.stays b m) }) a k d)
          [ inl t ↦ inl t | inr t ↦ inr (hears.stays a t) ]
      | inr k ↦ elim (hears.keeps e a k d) [ inl t ↦ t | inr t ↦ absurd (fits h g w a k t) ]
    ];
  }

  pub continues_hearing : Continues old heard
  continues_hearing = record {
    placed = more.placed;
    seats = more.seats;
    sends = more.sends;
    number = refl;
    made = λ g. refl;
    short = long;
    gathers = gathers_more;
    underway = λ cs g u. record {
      course = u.course;
      played = u.played;
      silent = λ t c e. absurd (true≢false (sym (u.silent t c e).ended ∙ more.unended));
    };
  }

-- a message that is no operation
pub hears_none : (s : ℕ) (ops held : List Op) (short : Bool) → Hears s ops held [] short held
hears_none s ops held short = record {
  from = λ a c. inl c;
  stays = λ a c. c;
  keeps = λ e a c d. absurd (not_Contains-nil a c);
}

pub or_second : (a b : Bool) → (a || b) ≡ false → b ≡ false
or_second true b e = absurd (true≢false e)
or_second false b e = e

only_one : (a x : Op) → Contains (a ∷ []) x → x ≡ a
only_one a x c = elim (Contains-cons_cases a [] x c) [
  | inl e ↦ e
  | inr k ↦ absurd (not_Contains-nil x k)
]

-- what an offer made of what is held
pub hears_offer : (s : ℕ) (ops held : List Op) (a : Op) (r : Result Offered OfferFault)
    (short : Bool) (new : List Op) → a.id.site ≢ s → (short ≡ false → ran_out r ≡ false) →
    (r ≡ Err Range → ¬ (IsInRange a)) → (r ≡ Err Clash → IsClash held ops a)
    → (r ≡ Ok Already → IsKnown held ops a) → (r ≡ Ok Held → Adds held a new)
    → (r ≢ Ok Held → new ≡ held) →
    Hears s ops held (a ∷ []) short new
hears_offer s ops held a (Err Range) short new d long range clash already adds same = let e = same
    (λ q. absurd cc) in record {
      from = λ x c. inl (subst (λ l. Contains l x) e c);
      stays = λ x c. subst (λ l. Contains l x) (sym e) c;
      keeps = λ l x c o. inr (inl (subst (λ y. ¬ (IsInRange y)) (sym (only_one a x c))
          (range refl)));
    }
hears_offer s ops held a (Err Clash) short new d long range clash already adds same = let e = same
    (λ q. absurd cc) in record {
      from = λ x c. inl (subst (λ l. Contains l x) e c);
      stays = λ x c. subst (λ l. Contains l x) (sym e) c;
      keeps = λ l x c o. inr (inr (subst (IsClash held ops) (sym (only_one a x c)) (clash refl)));
    }
hears_offer s ops held a (Err OutOfMemory) short new d long range clash already adds same =
    let e = same (λ q. absurd cc) in record {
      from = λ x c. inl (subst (λ l. Contains l x) e c);
      stays = λ x c. subst (λ l. Contains l x) (sym e) c;
      keeps = λ l x c o. absurd (true≢false (long l));
    }
hears_offer s ops held a (Ok Already) short new d long range clash already adds same = let e = same
    (λ q. absurd cc) in record {
      from = λ x c. inl (subst (λ l. Contains l x) e c);
      stays = λ x c. subst (λ l. Contains l x) (sym e) c;
      keeps = λ l x c o. elim (already refl).known [
        | inl k ↦ inl (inr (subst (Contains new) (sym (only_one a x c))
            (subst (λ l. Contains l a) (sym e) k)))
        | inr k ↦ inl (inl (subst (Contains ops) (sym (only_one a x c)) k))
      ];
    }
hears_offer s ops held a (Ok Held) short new d long range clash already adds same = let t = adds
    refl in record {
      from = λ x c. elim (Contains-between_cases t.before a t.after x
          (subst (λ l. Contains l x) t.with_it c)) [
            | inl e ↦ inr (
              subst (Contains (a ∷ [])) (sym e) (Contains-cons_head a []),
              subst (λ (y : Op). y.id.site ≢ s) (sym e) d,
            )
            | inr k ↦ inl (subst (λ l. Contains l x) (sym t.without) k)
          ];
      stays = λ x c. subst (λ l. Contains l x) (sym t.with_it)
          (Contains-between t.before a t.after x (subst (λ l. Contains l x) t.without c));
      keeps = λ l x c o. inl (inr
          (subst (Contains new) (sym (only_one a x c))
          (subst (λ l. Contains l a) (sym t.with_it)
          (Contains-between_itself t.before a t.after))));
    }
