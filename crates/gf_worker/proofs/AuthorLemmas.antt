-- An Author is a turn.
use Rattle.std.proofs.Common.{◌≡◌, ◌≢◌, ◌+◌, ℕ, Bool, true, false, List, [], ◌∷◌, ◌++◌, length, map}
use Rattle.std.proofs.Common.{inl, inr, refl, sym, ap, subst, ◌∙◌, arith, true≢false, Vec, Global}
use Rattle.std.specs.Prelude.{Contains, Some, None, not, IsTrue}
use Rattle.std.specs.Vec.{with_items}
use Rattle.std.proofs.lemmas.List.{append-nil, map-append, length-map, with_items_is}
use Rattle.std.proofs.lemmas.List.Elements.{Contains-append_left, Contains-push_cases}
use Rattle.gf_ops.specs.declared.op.Op.{Op}
use Rattle.gf_ops.specs.declared.change.Change.{Change}
use Rattle.gf_ops.specs.Accepted.{IsAccepted}
use Rattle.gf_ops.specs.ValidHistory.{IsValid}
use Rattle.gf_link.specs.declared.message.Message.TheVariants as message
use Rattle.gf_site.specs.SiteState.{SiteState, authored}
use Rattle.gf_site.specs.Events.{Refuses, Authors}
use Rattle.gf_site.specs.Course.{next}
use Rattle.gf_site.specs.declared.faults.AuthorFault.{AuthorFault}
use Rattle.gf_site.specs.declared.faults.AuthorFault.TheVariants as fault
use Rattle.gf_json.specs.declared.scripts.Command.{Command}
use Rattle.gf_json.specs.declared.scripts.Command.TheVariants.{Author}
use Rattle.gf_site.specs.declared.cause.Cause.TheVariants.{NeverComes}
use Rattle.gf_worker.specs.declared.report.Report.{Report}
use Rattle.gf_worker.specs.declared.peer.Peer.{Peer}
use Rattle.gf_worker.specs.declared.work.Work.{Work}
use Rattle.gf_worker.specs.Messages.{own}
use Rattle.gf_worker.specs.Peers.{seat_of}
use Rattle.gf_worker.specs.Coming.{HasCome}
use Rattle.gf_worker.specs.Played.{IsPlayed}
use Rattle.gf_worker.specs.Sending.{SendsToPeers}
use Rattle.gf_worker.specs.Working.{Gathers, IsUnderway, IsSilent, IsSent, AreSent}
use Rattle.gf_site.specs.CommandAnswers.{AuthorAnswer}
use Rattle.gf_worker.specs.Turns.{Turn, refusal_of, accepted_change}
use Rattle.gf_worker.specs.Playing.{IsRefusal, IsFaultReported, PlaysOn, cause_of}
use Rattle.gf_worker.proofs.TurnLemmas.{own_same}
use Rattle.gf_worker.proofs.PlayLemmas.{played_turn, played_author}
use Rattle.gf_worker.proofs.AwaitLemmas.{gathers_report, sent_report, underway_entries}
use Rattle.gf_worker.proofs.SendLemmas.{placed_by_seats, come_by_takes, ended_by_takes, map_sent}
use Rattle.gf_worker.proofs.SendLemmas.{sent_cases}

-- ---- a refused change

refused_answer : (s : ℕ) (h : List Op) (c : Change) (f : AuthorFault) → f ≢ fault.OutOfMemory
    → Refuses s h c f → AuthorAnswer s h [] c (cause_of f)
refused_answer s h c fault.Exhausted n r = r
refused_answer s h c fault.Range n r = r
refused_answer s h c fault.NoObject n r = r
refused_answer s h c fault.WrongKind n r = r
refused_answer s h c fault.BadAim n r = r
refused_answer s h c fault.OutOfMemory n r = absurd (n refl)

refused_none : (c : Change) (f : AuthorFault) → f ≢ fault.OutOfMemory
    → accepted_change (Author c) (cause_of f) ≡ []
refused_none c fault.Exhausted n = refl
refused_none c fault.Range n = refl
refused_none c fault.NoObject n = refl
refused_none c fault.WrongKind n = refl
refused_none c fault.BadAim n = refl
refused_none c fault.OutOfMemory n = absurd (n refl)

not_never : (f : AuthorFault) → cause_of f ≢ Some NeverComes
not_never fault.Exhausted e = absurd cc
not_never fault.Range e = absurd cc
not_never fault.NoObject e = absurd cc
not_never fault.WrongKind e = absurd cc
not_never fault.BadAim e = absurd cc
not_never fault.OutOfMemory e = absurd cc

module _ (w : Work) (report : Report) (short : Bool) (n : ℕ) (c : Change) (f : AuthorFault)
    (refuses : Refuses w.site.number w.site.ops c f) (other : f ≢ fault.OutOfMemory)
    (reported : IsRefusal n (cause_of f) true w.report report)
    (commands : List Command) (count : n ≡ 1 + length commands) (u : IsUnderway commands w) where
  refused_played : IsPlayed w.site.number (commands ++ Author c ∷ []) w.site.ops report
  refused_played = played_turn w.site.number commands w.site.ops w.report report u.played (Author c)
      (cause_of f) (refused_answer w.site.number w.site.ops c f other refuses)
      (refused_none c f other)
      (ap (λ v. v.items) reported.accepted)
      (subst (λ k. report.refused.items ≡ w.report.refused.items ++ refusal_of k (cause_of f)) count
      (reported.refused refl))

  refused_silent : (t : Turn) → Contains refused_played.turns t → t.refusal ≡ Some NeverComes
      → IsSilent (record w { report = report; short = short }) t
  unfolding refused_played played_turn
  refused_silent t k e = elim (Contains-push_cases u.played.turns
      (record { command = Author c; before = w.site.ops; refusal = cause_of f }) t k) [
        | inl m ↦ let q = u.silent t m e in record {
          ended = q.ended;
          none = q.none;
          ready = q.ready;
        }
        | inr q ↦ absurd (not_never f (ap (λ (x : Turn). x.refusal) q ∙ e))
      ]

  underway_refused : IsUnderway (commands ++ Author c ∷ [])
      (record w { report = report; short = short })
  underway_refused = record { course = u.course; played = refused_played; silent = refused_silent }

pub plays_refused : (old : Work) (mid report : Report) (n : ℕ) (c : Change) (f : AuthorFault)
    (done : Bool) → old.short ≡ false → mid.accepted.items ≡ old.report.accepted.items
    → mid.refused ≡ old.report.refused →
    Refuses old.site.number old.site.ops c f → IsFaultReported n f done mid report
    → PlaysOn n (Author c) old (record old { report = report; short = not done })
plays_refused old mid report n c f true l ma mr refuses q = record {
  placed = λ links p. p;
  seats = refl;
  number = refl;
  short = λ e. l;
  gathers = λ g. gathers_report old report false (λ e. l) g;
  sent = λ g t. sent_report old report false (λ e. l) t;
  played = λ e commands k g u. underway_refused (record old { report = mid }) report false n c f
      refuses (q.other refl) q.refusal commands k
      (underway_entries old mid old.short ma (ap (λ v. v.items) mr) commands u);
  stays = λ e. absurd (true≢false (sym e));
}
plays_refused old mid report n c f false l ma mr refuses q = record {
  placed = λ links p. p;
  seats = refl;
  number = refl;
  short = λ e. l;
  gathers = λ g. gathers_report old report true (λ e. l) g;
  sent = λ g t. sent_report old report true (λ e. l) t;
  played = λ e. absurd (true≢false e);
  stays = λ e commands g u.
      inl (underway_entries old report true (ap (λ v. v.items) q.refusal.accepted ∙ ma)
      (q.refusal.same refl ∙ ap (λ v. v.items) mr) commands u);
}

-- ---- a change that is made

not_false : (b : Bool) → not b ≡ false → b ≡ true
not_false true e = refl
not_false false e = absurd (true≢false e)

module _ (old : Work) (c : Change) (report : Report) (peers : Vec Peer Global) (all : Bool)
    (long : old.short ≡ false)
    (accepted : IsAccepted old.site.ops (authored old.site.number old.site.ops c))
    (valid : IsValid (old.site.ops ++ authored old.site.number old.site.ops c ∷ []))
    (ra : report.accepted.items ≡ old.report.accepted.items ++ (authored old.site.number
    old.site.ops c).id ∷ [])
    (rr : report.refused.items ≡ old.report.refused.items)
    (sends : SendsToPeers (authored old.site.number old.site.ops c) all old.peers.items
    peers.items) where
  abbrev made : Op
  made = authored old.site.number old.site.ops c

  abbrev now : Work
  now = record {
    site = record {
      number = old.site.number;
      ops = old.site.ops ++ made ∷ [];
      held = old.site.held;
    };
    peers = peers;
    report = report;
    short = not all;
  }

  now_seats : map seat_of peers.items ≡ map seat_of old.peers.items
  now_seats = ap (map seat_of) sends.now ∙ map_sent seat_of (message.Op made) (λ p. refl)
      sends.reached old.peers.items

  now_takes : map (λ p. p.take) peers.items ≡ map (λ p. p.take) old.peers.items
  now_takes = ap (map (λ (p : Peer). p.take)) sends.now
      ∙ map_sent (λ (p : Peer). p.take) (message.Op made) (λ p. refl) sends.reached old.peers.items

  come_back : (a : Op) → HasCome peers.items a → HasCome old.peers.items a
  come_back = come_by_takes peers.items old.peers.items (sym now_takes)

  come_on : (a : Op) → HasCome old.peers.items a → HasCome peers.items a
  come_on = come_by_takes old.peers.items peers.items now_takes

  gathers_made : Gathers old → Gathers now
  gathers_made g = record {
    has = λ a k d. elim (Contains-push_cases old.site.ops made a k) [
      | inl m ↦ come_on a (g.has a m d)
      | inr e ↦ absurd (d (ap (λ (x : Op). x.id.site) (sym e)))
    ];
    holds = λ a k. let t = g.holds a k in (t.0, come_on a t.1);
    keeps = λ e h w a k d.
        elim (g.keeps long h (record {
          valid = w.valid;
          has = λ b m. w.has b (Contains-append_left old.site.ops (made ∷ []) b m);
          come = λ b m. w.come b (come_on b m);
        }) a (come_back a k) d) [
          | inl m ↦ inl (Contains-append_left old.site.ops (made ∷ []) a m)
          | inr m ↦ inr m
        ];
  }

  sent_whole : (p : Peer) (i : IsSent (own old.site.number old.site.ops) old.short p)
      → own old.site.number (old.site.ops ++ made ∷ []) ≡ i.first ++ made ∷ []
  sent_whole p i = own_same old.site.number old.site.ops made refl
      ∙ ap (λ l. l ++ made ∷ []) (i.whole ∙ ap (λ l. i.first ++ l) (i.all long)
      ∙ append-nil i.first)

  sent_made : AreSent old → AreSent now
  sent_made t p k = elim (sent_cases (message.Op made) sends.reached old.peers.items p
      (subst (λ l. Contains l p) sends.now k)) [
        | inl q ↦ let i = t q.0 q.1 in
            subst (IsSent (own old.site.number (old.site.ops ++ made ∷ [])) (not all)) (sym q.2)
            (record {
              first = i.first ++ made ∷ [];
              rest = [];
              whole = sent_whole q.0 i ∙ sym (append-nil (i.first ++ made ∷ []));
              sent = ap (λ l. l ++ message.Op made ∷ []) i.sent
                  ∙ sym (map-append (λ (a : Op). message.Op a) i.first (made ∷ []));
              all = λ e. refl;
            })
        | inr q ↦ let i = t p q.0 in record {
          first = i.first;
          rest = made ∷ [];
          whole = sent_whole p i;
          sent = i.sent;
          all = λ e. absurd (let r = sends.whole (not_false all e) in let l = q.1 in
              omega (arith, r, l));
        }
      ]

  made_silent : (commands : List Command) (u : IsUnderway commands old) (t : Turn)
      → Contains (played_author old.site.number commands old.site.ops old.report report u.played c
      ra rr).turns t → t.refusal ≡ Some NeverComes → IsSilent now t
  unfolding played_author
  made_silent commands u t k e =
      elim (Contains-push_cases u.played.turns
      (record { command = Author c; before = old.site.ops; refusal = None }) t k) [
        | inl m ↦ let q = u.silent t m e in record {
          ended = subst IsTrue (sym (ended_by_takes old.peers.items peers.items now_takes)) q.ended;
          none = q.none;
          ready = q.ready;
        }
        | inr q ↦ absurd (let z : None ≡ Some NeverComes = ap (λ (x : Turn). x.refusal) q ∙ e in cc)
      ]

  underway_made : (commands : List Command) → IsUnderway commands old
      → IsUnderway (commands ++ Author c ∷ []) now
  underway_made commands u = record {
    course = next made u.course valid (λ e. refl);
    played = played_author old.site.number commands old.site.ops old.report report u.played c ra rr;
    silent = made_silent commands u;
  }

  pub plays_made : (n : ℕ) → PlaysOn n (Author c) old now
  plays_made n = record {
    placed = λ links p. placed_by_seats links old.peers.items peers.items now_seats p;
    seats = now_seats;
    number = refl;
    short = λ e. long;
    gathers = gathers_made;
    sent = λ g t. sent_made t;
    played = λ e commands k g u. underway_made commands u;
    stays = λ e commands g u. inr (long, underway_made commands u);
  }

pub plays_author : (old : Work) (report : Report) (n : ℕ) (c : Change) (a : Op) (new : SiteState)
    (peers : Vec Peer Global) (all : Bool) → old.short ≡ false → Authors old.site c a new
    → IsValid new.ops →
    report.accepted.items ≡ old.report.accepted.items ++ a.id ∷ []
    → report.refused.items ≡ old.report.refused.items
    → SendsToPeers a all old.peers.items peers.items →
    PlaysOn n (Author c) old
    (record { site = new; peers = peers; report = report; short = not all })
plays_author old report n c a new peers all long au valid ra rr sends =
    let is = au.is in
    let state : new ≡ record {
      number = old.site.number;
      ops = old.site.ops ++ authored old.site.number old.site.ops c ∷ [];
      held = old.site.held;
    } = au.state ∙ ap (λ x. record old.site { ops = old.site.ops ++ x ∷ [] }) is in
    subst (λ s. PlaysOn n (Author c) old
    (record { site = s; peers = peers; report = report; short = not all })) (sym state)
    (plays_made old c report peers all long (subst (IsAccepted old.site.ops) is au.accepted)
    (subst (λ (s : SiteState). IsValid s.ops) state valid)
    (subst (λ (x : Op). report.accepted.items ≡ old.report.accepted.items ++ x.id ∷ []) is ra) rr
    (subst (λ x. SendsToPeers x all old.peers.items peers.items) is sends) n)

-- a worker without memory for one entry more
pub plays_unreserved : (old : Work) (report : Report) (n : ℕ) (c : Command)
    → report.accepted.items ≡ old.report.accepted.items
    → report.refused.items ≡ old.report.refused.items → old.short ≡ false →
    PlaysOn n c old (record old { report = report; short = true })
plays_unreserved old report n c ra rr l = record {
  placed = λ links p. p;
  seats = refl;
  number = refl;
  short = λ e. l;
  gathers = λ g. gathers_report old report true (λ e. l) g;
  sent = λ g t. sent_report old report true (λ e. l) t;
  played = λ e. absurd (true≢false e);
  stays = λ e commands g u. inl (underway_entries old report true ra rr commands u);
}

-- what was sent to a slice of the peers
pub sends_items : (a : Op) (all : Bool) (peers : Vec Peer Global) (old new : List Peer)
    → old ≡ peers.items → SendsToPeers a all old new
    → SendsToPeers a all peers.items (with_items peers new).items
sends_items a all peers old new e t =
    let t = subst (λ l. SendsToPeers a all l new) e t in
    let long : length new ≡ length peers.items = ap length t.now
    ∙ sym (length-map _ (λ (p : Peer). p.out))
    ∙ ap length (map_sent (λ (p : Peer). p.out) (message.Op a) (λ p. refl) t.reached peers.items)
    ∙ length-map peers.items (λ (p : Peer). p.out) in
    subst (SendsToPeers a all peers.items) (sym (with_items_is peers new (long ∙ sym peers.ok.0))) t
