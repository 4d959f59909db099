-- How a worker begins, and what it has done at its end.
use Rattle.std.proofs.Common.{◌≡◌, ◌+◌, ◌≤◌, Bool, true, false, ◌&&◌, List, [], ◌∷◌, ◌++◌, map}
use Rattle.std.proofs.Common.{length, inl, inr, refl, sym, ap, subst, ◌∙◌, arith, true≢false, Vec}
use Rattle.std.proofs.Common.{Global}
use Rattle.std.specs.Prelude.{Contains, All, IsTrue}
use Rattle.std.specs.Vec.{with_items}
use Rattle.std.proofs.lemmas.List.{with_items_is, length-map}
use Rattle.std.proofs.lemmas.List.Elements.{All-contains}
use Rattle.atomic_table.specs.Seated.{TableId}
use Rattle.gf_ops.specs.declared.op.Op.{Op}
use Rattle.gf_ops.specs.ValidHistory.{IsValid}
use Rattle.gf_ops.specs.OperationOrder.{count_of}
use Rattle.gf_base.proofs.ListLemmas.{not_Contains-nil, Contains-cons_cases, Contains-map_from}
use Rattle.gf_ops.proofs.ValidityLemmas.{same_op}
use Rattle.gf_causal.specs.Ready.{NoneIsReady}
use Rattle.gf_causal.specs.DeliveredPart.{IsLastDelivery}
use Rattle.gf_causal.proofs.CourseLemmas.{delivered_part, number_counted}
use Rattle.gf_causal.proofs.WholeLemmas.{whole_delivered}
use Rattle.gf_link.specs.Ends.{is_ended}
use Rattle.gf_link.specs.Seats.{SendSide}
use Rattle.gf_site.specs.SiteState.{SiteState}
use Rattle.gf_site.specs.Course.{IsCourse, none}
use Rattle.gf_json.specs.declared.scripts.Command.{Command}
use Rattle.gf_worker.specs.declared.report.Report.{Report}
use Rattle.gf_worker.specs.declared.peer.Peer.{Peer}
use Rattle.gf_worker.specs.declared.work.Work.{Work}
use Rattle.gf_worker.specs.declared.worker.WorkerEnd.{WorkerEnd}
use Rattle.gf_worker.specs.Messages.{own, ops_of, last_message}
use Rattle.gf_worker.specs.Peers.{all_ended, StandsInTable, ArePlaced, IsFresh, seat_of, with_last}
use Rattle.gf_worker.specs.Coming.{HasCome, IsJust, AreForeign}
use Rattle.gf_worker.specs.Sending.{IsOpen}
use Rattle.gf_worker.specs.Working.{Gathers, IsUnderway, Continues, Plays}
use Rattle.gf_worker.specs.Playing.{IsBegun, Through}
use Rattle.gf_worker.specs.Ending.{HasSent, HasWorked}
use Rattle.gf_site.proofs.CourseLemmas.{course_ready}
use Rattle.gf_worker.proofs.SendLemmas.{all_from, plays_open, seats_sent, same_image}
use Rattle.gf_worker.proofs.SendLemmas.{placed_by_seats, come_by_takes, ended_by_takes}

-- ---- at the beginning

nothing_came : (peers : List Peer) → All IsFresh peers → (a : Op) → ¬ (HasCome peers a)
nothing_came peers fresh a h = not_Contains-nil a
    (subst (λ l. Contains (ops_of l) a) (All-contains IsFresh peers h.peer fresh h.contained).taken
    h.among)

pub begins : (site : SiteState) (peers : Vec Peer Global) (report : Report) → site.ops ≡ []
    → site.held ≡ [] → All IsFresh peers.items → report.accepted.items ≡ []
    → report.refused.items ≡ [] →
    IsBegun (record { site = site; peers = peers; report = report; short = false })
begins site peers report ops held fresh accepted refused = record {
  gathers = record {
    has = λ a c d. absurd (not_Contains-nil a (subst (λ l. Contains l a) ops c));
    holds = λ a c. absurd (not_Contains-nil a (subst (λ l. Contains l a) held c));
    keeps = λ e h w a c d. absurd (nothing_came peers.items fresh a c);
  };
  underway = record {
    course = subst (IsCourse site.number) (sym ops) none;
    played = record {
      turns = [];
      each = refl;
      right = λ t c. absurd (not_Contains-nil t c);
      rising = λ i j d l m. absurd (omega arith);
      counted = tt;
      made = ap (λ l. map (λ (a : Op). a.change) (own site.number l)) ops;
      accepted = accepted ∙ sym (ap (λ l. map (λ (a : Op). a.id) (own site.number l)) ops);
      refused = refused;
    };
    silent = λ t c e. absurd (not_Contains-nil t c);
  };
  sent = λ p c. record {
    first = [];
    rest = [];
    whole = ap (own site.number) ops;
    sent = (All-contains IsFresh peers.items p fresh c).sent;
    all = λ e. refl;
  };
}

-- ---- the last messages

takes_sent : (short : Bool) (peers : List Peer)
    → map (λ p. p.take) (map (with_last short) peers) ≡ map (λ p. p.take) peers
takes_sent short [] = refl
takes_sent short (p ∷ peers) = ap (λ l. p.take ∷ l) (takes_sent short peers)

gathers_sent : (w : Work) (peers : Vec Peer Global)
    → map (λ p. p.take) peers.items ≡ map (λ p. p.take) w.peers.items → Gathers w
    → Gathers (record w { peers = peers })
gathers_sent w peers e g =
    let on = come_by_takes w.peers.items peers.items e in
    let back = come_by_takes peers.items w.peers.items (sym e) in record {
      has = λ a c d. on a (g.has a c d);
      holds = λ a c. let t = g.holds a c in (t.0, on a t.1);
      keeps = λ q h k a c d. g.keeps q h
          (record { valid = k.valid; has = k.has; come = λ b m. k.come b (on b m) }) a (back a c) d;
    }

underway_sent : (w : Work) (peers : Vec Peer Global)
    → map (λ p. p.take) peers.items ≡ map (λ p. p.take) w.peers.items → (commands : List Command)
    → IsUnderway commands w → IsUnderway commands (record w { peers = peers })
underway_sent w peers e commands u = record {
  course = u.course;
  played = u.played;
  silent = λ t c q. let k = u.silent t c q in record {
    ended = subst IsTrue (sym (ended_by_takes w.peers.items peers.items e)) k.ended;
    none = k.none;
    ready = k.ready;
  };
}

-- ---- the end

stays_true : (a b : Bool) → (b ≡ false → a ≡ false) → a ≡ true → b ≡ true
stays_true a true f e = refl
stays_true a false f e = absurd (true≢false (sym e ∙ f refl))

and_first : (a b : Bool) → (a && b) ≡ true → a ≡ true
and_first true b e = refl
and_first false b e = e

and_second : (a b : Bool) → (a && b) ≡ true → b ≡ true
and_second true b e = e
and_second false b e = absurd (true≢false (sym e))

ended_each : (peers : List Peer) → all_ended peers ≡ true → (p : Peer) → Contains peers p
    → is_ended p.take.taken ≡ true
ended_each [] e p c = absurd (not_Contains-nil p c)
ended_each (q ∷ peers) e p c = elim (Contains-cons_cases q peers p c) [
  | inl k ↦ subst (λ (x : Peer). is_ended x.take.taken ≡ true) (sym k)
      (and_first (is_ended q.take.taken) (all_ended peers) e)
  | inr k ↦ ended_each peers (and_second (is_ended q.take.taken) (all_ended peers) e) p k
]

-- where what the site has and what came is a valid history, it has all of it
has_all : (w : Work) → Gathers w → IsCourse w.site.number w.site.ops → IsValid w.site.ops
    → NoneIsReady w.site.ops w.site.held → w.short ≡ false → (h : List Op)
    → IsJust h w.site.ops w.peers.items → AreForeign w.site.number w.peers.items →
    (a : Op) → Contains h a → Contains w.site.ops a
has_all w g course valid idle e h just foreign a c =
    let ready = course_ready course in
    let late : (x : Op) → Contains w.site.ops x → x.id.seq ≡ count_of w.site.ops x.id.site + 1
    → ⊥ = λ x m q. let n = number_counted ready x m in absurd (omega arith) in
    let last : IsLastDelivery h w.site.ops = record {
      delivery = record { from_offered = just.whole.has; once = valid.distinct; in_turn = ready };
      last = λ x m r. elim (just.only x m) [
        | inl k ↦ late x k r.seq
        | inr k ↦ elim (g.keeps e h just.whole x k (foreign x k)) [
          | inl n ↦ late x n r.seq
          | inr n ↦ idle x n r
        ]
      ];
    } in
    (delivered_part h w.site.ops (λ x y m n i. same_op h just.whole.valid x y m n i) last a).1
    ((whole_delivered h h just.whole.valid (λ x. (λ m. m, λ m. m)) a).0 c)

module _ (script : List Command) (old mid : Work) (peers : Vec Peer Global) (new : Work)
    (begun : IsBegun old) (through : Through script old mid)
    (is : peers.items ≡ map (with_last mid.short) mid.peers.items)
    (rest : Continues (record mid { peers = peers }) new)
    (ended : IsTrue (all_ended new.peers.items)) (idle : new.short ≡ false
    → NoneIsReady new.site.ops new.site.held) where
  abbrev sent_work : Work
  sent_work = record mid { peers = peers }

  abbrev end : WorkerEnd
  end = record { site = new.site; seats = new.peers; report = new.report; short = new.short }

  takes : map (λ p. p.take) peers.items ≡ map (λ p. p.take) mid.peers.items
  takes = ap (map (λ (p : Peer). p.take)) is ∙ takes_sent mid.short mid.peers.items

  gathers_mid : Gathers sent_work
  gathers_mid = gathers_sent mid peers takes (through.gathers begun.gathers)

  plays : Plays script mid
  plays = through.plays begun.gathers begun.underway

  under : IsUnderway plays.done new
  under = rest.underway plays.done gathers_mid
      (underway_sent mid peers takes plays.done plays.underway)

  gathers_new : Gathers new
  gathers_new = rest.gathers gathers_mid

  sent_last : (p : Peer) → Contains peers.items p
      → HasSent (own mid.site.number mid.site.ops) mid.short p
  sent_last p c =
      let t = Contains-map_from (with_last mid.short) mid.peers.items p
      (subst (λ l. Contains l p) is c) in
      let i = through.sent begun.gathers begun.sent t.0 t.1 in
      subst (HasSent (own mid.site.number mid.site.ops) mid.short) (sym t.2) (record {
        first = i.first;
        rest = i.rest;
        whole = i.whole;
        stopped = mid.short;
        sent = ap (λ l. l ++ last_message mid.short ∷ []) i.sent;
        unless = λ e. e;
        all = i.all;
      })

  sent_new : (p : Peer) → Contains new.peers.items p
      → HasSent (own new.site.number new.site.ops) new.short p
  sent_new p c =
      let q = same_image (λ (x : Peer). x.send) peers.items new.peers.items (sym rest.sends) p c in
      let s = sent_last q.0 q.1 in record {
        first = s.first;
        rest = s.rest;
        whole = rest.made gathers_mid ∙ s.whole;
        stopped = s.stopped;
        sent = ap (λ (x : SendSide). x.sent) q.2 ∙ s.sent;
        unless = λ e. stays_true mid.short new.short rest.short (s.unless e);
        all = s.all;
      }

  worked : IsValid new.site.ops → HasWorked new.site.number script old.peers.items end
  worked valid = record {
    number = refl;
    seats = rest.seats ∙ ap (map seat_of) is ∙ seats_sent mid.short mid.peers.items ∙ through.seats;
    sent = sent_new;
    ended = ended_each new.peers.items ended;
    course = under.course;
    valid = valid;
    played = record {
      done = plays.done;
      rest = plays.rest;
      whole = plays.whole;
      full = λ e. plays.full (rest.short e);
      played = under.played;
    };
    has = gathers_new.has;
    idle = idle;
    all = λ e. has_all new gathers_new under.course valid (idle e) e;
  }

  pub has_worked : IsValid new.site.ops → HasWorked old.site.number script old.peers.items end
  has_worked valid = subst (λ s. HasWorked s script old.peers.items end) (rest.number
      ∙ through.number) (worked valid)

-- ---- what the calls of site_worker ask

pub opens : (script : List Command) (old mid : Work) → IsBegun old → Through script old mid
    → length script ≤ 1000 → (now : List Peer) → now ≡ mid.peers.items → All IsOpen now
opens script old mid b t few now e = subst (All IsOpen) (sym e)
    (all_from IsOpen mid.peers.items (plays_open script mid (t.plays b.gathers b.underway)
    (t.sent b.gathers b.sent) (omega (arith, few))))

pub last_items : (peers : Vec Peer Global) (short : Bool) (now new : List Peer) → now ≡ peers.items
    → new ≡ map (with_last short) now → (with_items peers new).items ≡ map (with_last short)
    peers.items
last_items peers short now new e f =
    let g : new ≡ map (with_last short) peers.items = f ∙ ap (map (with_last short)) e in
    with_items_is peers new (ap length g ∙ length-map peers.items (with_last short)
    ∙ sym peers.ok.0) ∙ g

pub placed_last : (links : List TableId) (script : List Command) (old mid : Work)
    (peers : List Peer) → All (StandsInTable links) old.peers.items → Through script old mid
    → peers ≡ map (with_last mid.short) mid.peers.items → ArePlaced links peers
placed_last links script old mid peers p t e =
    placed_by_seats links old.peers.items peers (ap (map seat_of) e
    ∙ seats_sent mid.short mid.peers.items
    ∙ t.seats) (λ x c. All-contains (StandsInTable links) old.peers.items x p c)
