-- The outcome of a session.
use Rattle.std.proofs.Common.{◌≡◌, ◌≢◌, ℕ, zero, suc, ◌+◌, Bool, true, false, List, [], ◌∷◌, ◌++◌}
use Rattle.std.proofs.Common.{map, refl, sym, ap, subst, ◌∙◌, arith, true≢false}
use Rattle.std.specs.Prelude.{◌||◌, Contains, Some, option_map, slice_get, IsTrue}
use Rattle.std.specs.List.{list_any}
use Rattle.std.proofs.lemmas.List.{append-nil, length-map}
use Rattle.std.proofs.lemmas.Option.{slice_get-map, slice_get_within}
use Rattle.gf_ops.specs.declared.op.Op.{Op}
use Rattle.gf_link.specs.Ends.{is_ended}
use Rattle.gf_causal.specs.DeliveredPart.{HaveSame}
use Rattle.gf_json.specs.declared.scripts.Command.{Command}
use Rattle.gf_site.specs.SiteState.{SiteState}
use Rattle.gf_worker.specs.declared.script.Script.{Script}
use Rattle.gf_worker.specs.declared.peer.Peer.{Peer}
use Rattle.gf_worker.specs.declared.worker.WorkerEnd.{WorkerEnd}
use Rattle.gf_worker.specs.Messages.{own, messages_of, ops_of, last_message}
use Rattle.gf_worker.specs.Played.{IsPlayed}
use Rattle.gf_worker.specs.Ending.{HasSent, HasWorked}
use Rattle.gf_mesh.specs.Settled.{AreAllTaken}
use Rattle.gf_session.specs.declared.starting.SiteToRun.{SiteToRun}
use Rattle.gf_session.specs.Outcome.{SiteEnd, IsSiteOutcome}
use Rattle.gf_session.specs.Joined.{IsFrom, IsComplete, AreJoined, HaveOne}
use Rattle.gf_session.specs.Starting.{AreSitesToRun, Gave, GaveAll}
use Rattle.gf_session.specs.Session.{IsSession, done_of, site_end, site_ends}
use Rattle.gf_site.specs.Course.{IsCourse}
use Rattle.gf_base.proofs.ListLemmas.{Contains-map_from}
use Rattle.gf_base.proofs.PositionLemmas.{one_value, position_in, position_of as position_at}
use Rattle.gf_replicas.specs.Courses.{AreCourses, HaveEvents}
use Rattle.gf_replicas.proofs.EventLemmas.{courses_have_events}
use Rattle.gf_session.proofs.GaveLemmas.{gave_number, gave_worked, same_long}
use Rattle.gf_session.proofs.JoinedLemmas.{one_history, origin}

pub got_map : {X Y : Type 0} (f : X → Y) (xs : List X) (k : ℕ) (y : Y)
    → slice_get (map f xs) k ≡ Some y → (x : X) × (slice_get xs k ≡ Some x) × (f x ≡ y)
got_map f [] k y e = absurd cc
got_map f (x ∷ xs) zero y e = (x, refl, let q : f x ≡ y = cc in q)
got_map f (x ∷ xs) (suc k) y e = got_map f xs k y e

ops_sent : (ops : List Op) (short : Bool)
    → ops_of (messages_of ops ++ last_message short ∷ []) ≡ ops
ops_sent [] true = refl
ops_sent [] false = refl
ops_sent (a ∷ ops) short = ap (λ l. a ∷ l) (ops_sent ops short)

not_true : (b : Bool) → b ≢ true → b ≡ false
not_true true n = absurd (n refl)
not_true false n = refl

-- of a worker that is not short all that its site made was sent
pub sent_all : (ops : List Op) (short : Bool) (p : Peer) → short ≡ false → HasSent ops short p
    → ops_of p.send.sent ≡ ops
sent_all ops short p e s =
    let whole = s.all (not_true s.stopped (λ q. true≢false (sym (s.unless q) ∙ e))) in
    ap ops_of s.sent ∙ ops_sent s.first s.stopped ∙ sym (s.whole ∙ ap (λ l. s.first ++ l) whole
    ∙ append-nil s.first)

complete_here : (script : List Command) (peers : List Peer) (e : WorkerEnd) → e.short ≡ false
    → HasWorked e.site.number script peers e → IsComplete e
complete_here script peers e q w = record {
  course = w.course;
  valid = w.valid;
  has = w.has;
  all = w.all q;
}

pub complete : (s : ℕ) (script : List Command) (peers : List Peer) (e : WorkerEnd) → e.short ≡ false
    → HasWorked s script peers e → IsComplete e
complete s script peers e q w = complete_here script peers e q
    (subst (λ n. HasWorked n script peers e) (sym w.number) w)

played_full : (s : ℕ) (script : List Command) (peers : List Peer) (e : WorkerEnd) → e.short ≡ false
    → HasWorked s script peers e → IsPlayed e.site.number script e.site.ops e.report
played_full s script peers e q w =
    let p = w.played in
    subst (λ l. IsPlayed e.site.number l e.site.ops e.report)
    (sym (p.whole ∙ ap (λ l. p.done ++ l) (p.full q) ∙ append-nil p.done)) p.played

pub site_outcome : (s : ℕ) (script : Script) (peers : List Peer) (e : WorkerEnd) → e.short ≡ false
    → HasWorked s script.0.items peers e → IsSiteOutcome (site_end script (done_of e))
site_outcome s script peers e q w = record {
  course = (complete s script.0.items peers e q w).course;
  played = played_full s script.0.items peers e q w;
}

pub same_ops : (ends : List WorkerEnd) → HaveOne ends → (e f : WorkerEnd) → Contains ends e
    → Contains ends f → HaveSame e.site.ops f.site.ops
same_ops ends one e f c d a = let p = one.same e c a in let q = one.same f d a in
    (λ k. q.1 (p.0 k), λ k. p.1 (q.0 k))

-- ---- the sites to run and what their workers gave, by their indexes

-- the site to run at the place of a worker's end
record Begun (sites : List SiteToRun) (k : ℕ) (e : WorkerEnd) : Type 0 where
  to_run : SiteToRun
  at : slice_get sites k ≡ Some to_run
  gave : Gave to_run e

begun_at : (sites : List SiteToRun) (ends : List WorkerEnd) → GaveAll sites ends
    → (k : ℕ) (e : WorkerEnd) → slice_get ends k ≡ Some e → Begun sites k e
begun_at [] [] g k e q = absurd cc
begun_at [] (x ∷ ends) g k e q = absurd g
begun_at (s ∷ sites) [] g k e q = absurd cc
begun_at (s ∷ sites) (x ∷ ends) g zero e q = let i : x ≡ e = cc in record {
  to_run = s;
  at = refl;
  gave = subst (Gave s) i g.0;
}
begun_at (s ∷ sites) (x ∷ ends) g (suc k) e q = let o = begun_at sites ends g.1 k e q in
    record { to_run = o.to_run; at = o.at; gave = o.gave }

-- the worker's end and its site to run at a place of a session
record Played (sites : List SiteToRun) (ends : List WorkerEnd) (k : ℕ) (p : SiteEnd) : Type 0 where
  to_run : SiteToRun
  end : WorkerEnd
  to_run_at : slice_get sites k ≡ Some to_run
  ends_at : slice_get ends k ≡ Some end
  is : p ≡ site_end to_run.script (done_of end)

played_at : (sites : List SiteToRun) (ends : List WorkerEnd) → GaveAll sites ends
    → (k : ℕ) (p : SiteEnd) → slice_get (site_ends (map (λ s. s.script) sites) (map done_of ends))
    k ≡ Some p → Played sites ends k p
played_at [] ends g k p q = absurd cc
played_at (s ∷ sites) [] g k p q = absurd cc
played_at (s ∷ sites) (x ∷ ends) g zero p q = let i : site_end s.script (done_of x) ≡ p = cc in
    record { to_run = s; end = x; to_run_at = refl; ends_at = refl; is = sym i }
played_at (s ∷ sites) (x ∷ ends) g (suc k) p q =
    let o = played_at sites ends g.1 k p q in record {
      to_run = o.to_run;
      end = o.end;
      to_run_at = o.to_run_at;
      ends_at = o.ends_at;
      is = o.is;
    }

no_first : (a b : Bool) → (a || b) ≡ false → a ≡ false
no_first true b e = absurd (true≢false e)
no_first false b e = refl

no_second : (a b : Bool) → (a || b) ≡ false → b ≡ false
no_second true b e = absurd (true≢false e)
no_second false b e = e

none_short : (ends : List WorkerEnd) → list_any (λ e. e.short) ends ≡ false
    → (k : ℕ) (e : WorkerEnd) → slice_get ends k ≡ Some e → e.short ≡ false
none_short [] n k e q = absurd cc
none_short (x ∷ ends) n zero e q = let i : x ≡ e = cc in subst (λ (y : WorkerEnd). y.short ≡ false)
    i (no_first x.short (list_any (λ e. e.short) ends) n)
none_short (x ∷ ends) n (suc k) e q = none_short ends
    (no_second x.short (list_any (λ e. e.short) ends) n) k e q

lists_are : (ends : List WorkerEnd) → map (λ d. d.site.ops) (map done_of ends) ≡ map
    (λ e. e.site.ops) ends
lists_are [] = refl
lists_are (e ∷ ends) = ap (λ l. e.site.ops ∷ l) (lists_are ends)

-- ---- the session

module _ (scripts : List Script) (rows : List (List Peer)) (sites : List SiteToRun)
    (ends : List WorkerEnd) (begun : AreSitesToRun scripts rows sites) (gave : GaveAll sites ends)
    (long : list_any (λ e. e.short) ends ≡ false) where
  number : (k : ℕ) (e : WorkerEnd) → slice_get ends k ≡ Some e → e.site.number ≡ k + 1
  number k e q = let o = begun_at sites ends gave k e q in gave_number o.to_run e o.gave
      ∙ ap (λ (x : SiteState). x.number) (begun.sites_are k o.to_run o.at)

  worked : (k : ℕ) (e : WorkerEnd) (q : slice_get ends k ≡ Some e)
      → let o = begun_at sites ends gave k e q in HasWorked (k + 1) o.to_run.script.0.items
      o.to_run.peers.items e
  worked k e q =
      let o = begun_at sites ends gave k e q in
      subst (λ n. HasWorked n o.to_run.script.0.items o.to_run.peers.items e)
      (ap (λ (x : SiteState). x.number) (begun.sites_are k o.to_run o.at))
      (gave_worked o.to_run e o.gave (none_short ends long k e q))

  pub ended : (k : ℕ) (e : WorkerEnd) → slice_get ends k ≡ Some e → (p : Peer)
      → Contains e.seats.items p → IsTrue (is_ended p.take.taken)
  ended k e q = (worked k e q).ended

  module _ (settled : AreAllTaken (map (λ e. e.seats.items) ends)) where
    row_of : (k : ℕ) (e : WorkerEnd) → slice_get ends k ≡ Some e
        → slice_get (map (λ e. e.seats.items) ends) k ≡ Some e.seats.items
    row_of k e q = slice_get-map (λ (x : WorkerEnd). x.seats.items) ends k
        ∙ ap (option_map (λ (x : WorkerEnd). x.seats.items)) q

    -- what one peer took from another is all that the other's site made
    from : (j : ℕ) (f : WorkerEnd) → slice_get ends j ≡ Some f → (p q : Peer)
        → Contains f.seats.items q → p.take.taken ≡ q.send.sent → IsFrom p f
    from j f e p q c t =
        let w = worked j f e in
        ap ops_of t ∙ sent_all (own (j + 1) f.site.ops) f.short q (none_short ends long j f e)
        (w.sent q c) ∙ ap (λ n. own n f.site.ops) (sym w.number)

    joined : AreJoined ends
    joined = record {
      complete = λ e c.
          let k = position_at ends e c in
          let o = begun_at sites ends gave k.0 e k.1 in complete (k.0 + 1) o.to_run.script.0.items
          o.to_run.peers.items e (none_short ends long k.0 e k.1) (worked k.0 e k.1);
      one = λ e f c d n.
          let k = position_at ends e c in
          let j = position_at ends f d in
          let a = number k.0 e k.1 in
          let b = number j.0 f j.1 in
          let i : k.0 ≡ j.0 = omega (arith, a, b, n) in
          one_value ends j.0 e f (subst (λ m. slice_get ends m ≡ Some e) i k.1) j.1;
      heard = λ e f c d n.
          let k = position_at ends e c in
          let j = position_at ends f d in
          let a = number k.0 e k.1 in
          let b = number j.0 f j.1 in
          let h = settled.each k.0 j.0 e.seats.items f.seats.items
          (λ i. n (a ∙ ap (λ m. m + 1) i ∙ sym b)) (row_of k.0 e k.1) (row_of j.0 f j.1) in
          record {
            peer = h.taker;
            contained = h.took;
            all = from j.0 f j.1 h.taker h.sender h.sent h.all;
          };
      senders = λ e c p m.
          let k = position_at ends e c in
          let s = settled.only k.0 e.seats.items p (row_of k.0 e k.1) m in
          let t = got_map (λ (x : WorkerEnd). x.seats.items) ends s.index s.row s.at in
          let a = number k.0 e k.1 in
          let b = number s.index t.0 t.1 in
          record {
            end = t.0;
            contained = position_in ends s.index t.0 t.1;
            other = λ n. s.apart (omega (arith, a, b, n));
            all = from s.index t.0 t.1 p s.sender
                (subst (λ l. Contains l s.sender) (sym t.2) s.sent) s.all;
          };
    }

    each_one : (k : ℕ) (s : SiteToRun) (e : WorkerEnd) → slice_get sites k ≡ Some s
        → slice_get ends k ≡ Some e → IsSiteOutcome (site_end s.script (done_of e))
    each_one k s e a b =
        let o = begun_at sites ends gave k e b in
        let i : o.to_run ≡ s = one_value sites k o.to_run s o.at a in
        subst (λ (x : SiteToRun). IsSiteOutcome (site_end x.script (done_of e))) i
        (site_outcome (k + 1) o.to_run.script o.to_run.peers.items e (none_short ends long k e b)
        (worked k e b))

    have_one : HaveOne ends
    have_one = one_history ends joined

    courses : AreCourses (map (λ e. e.site.ops) ends)
    courses = record {
      course = λ k h q.
          let t = got_map (λ (x : WorkerEnd). x.site.ops) ends k h q in
          let i = joined.complete t.0 (position_in ends k t.0 t.1) in
          subst (λ (w : ℕ × List Op). IsCourse w.0 w.1) (λ j. (number k t.0 t.1 j, t.2 j)) i.course;
      same = λ g h c d.
          let t = Contains-map_from (λ (x : WorkerEnd). x.site.ops) ends g c in
          let u = Contains-map_from (λ (x : WorkerEnd). x.site.ops) ends h d in
          subst (λ (w : List Op × List Op). HaveSame w.0 w.1) (λ i. (sym t.2 i, sym u.2 i))
          (same_ops ends have_one t.0 u.0 t.1 u.1);
      among = λ h a c d.
          let t = Contains-map_from (λ (x : WorkerEnd). x.site.ops) ends h c in
          let o = origin ends joined t.0 a t.1 (subst (λ l. Contains l a) t.2 d) in
          let k = position_at ends o.end o.contained in
          let site = o.site in
          let place = number k.0 o.end k.1 in
          let l = slice_get_within ends k.0 o.end k.1 in
          let m = length-map ends (λ (x : WorkerEnd). x.site.ops) in
          omega (arith, site, place, l, m);
    }

    outcome_here : IsSession (map (λ s. s.script) sites) (map done_of ends)
    outcome_here =
        let all : List SiteEnd = site_ends (map (λ s. s.script) sites) (map done_of ends) in
        record {
          long = length-map ends done_of ∙ same_long sites ends gave
              ∙ sym (length-map sites (λ (s : SiteToRun). s.script));
          outcome = record {
            numbers = λ k p q. let t = played_at sites ends gave k p q in
                ap (λ (x : SiteEnd). x.number) t.is ∙ number k t.end t.ends_at;
            each = λ p c.
                let k = position_at all p c in
                let t = played_at sites ends gave k.0 p k.1 in
                subst IsSiteOutcome (sym t.is) (each_one k.0 t.to_run t.end t.to_run_at t.ends_at);
            same = λ p q c d.
                let k = position_at all p c in
                let j = position_at all q d in
                let t = played_at sites ends gave k.0 p k.1 in
                let u = played_at sites ends gave j.0 q j.1 in
                subst (λ (x : SiteEnd × SiteEnd). HaveSame x.0.ops x.1.ops)
                (λ i. (sym t.is i, sym u.is i))
                (same_ops ends have_one t.end u.end (position_in ends k.0 t.end t.ends_at)
                (position_in ends j.0 u.end u.ends_at));
          };
          events = subst HaveEvents (sym (lists_are ends))
              (courses_have_events (map (λ e. e.site.ops) ends) courses);
        }

    pub session_outcome : IsSession scripts (map done_of ends)
    session_outcome = subst (λ l. IsSession l (map done_of ends)) begun.scripts_are outcome_here
