-- An Await is a turn.
use Rattle.std.proofs.Common.{◌≡◌, ◌+◌, ℕ, Bool, true, false, List, [], ◌∷◌, ◌++◌, length, inl, inr}
use Rattle.std.proofs.Common.{refl, sym, ap, subst, ◌∙◌, true≢false}
use Rattle.std.specs.Prelude.{Contains, Option, Some, not}
use Rattle.std.proofs.lemmas.List.Elements.{Contains-push_cases}
use Rattle.gf_ops.specs.declared.op.OpId.{OpId}
use Rattle.gf_json.specs.declared.scripts.Command.{Command}
use Rattle.gf_json.specs.declared.scripts.Command.TheVariants.{Await}
use Rattle.gf_site.specs.declared.cause.Cause.{Cause}
use Rattle.gf_site.specs.declared.cause.Cause.TheVariants.{NeverComes}
use Rattle.gf_worker.specs.declared.report.Report.{Report}
use Rattle.gf_worker.specs.declared.work.Work.{Work}
use Rattle.gf_worker.specs.Turns.{Turn, refusal_of}
use Rattle.gf_worker.specs.Played.{IsPlayed}
use Rattle.gf_worker.specs.Working.{AreSent, Gathers, IsUnderway, IsSilent, Continues, Judges}
use Rattle.gf_worker.proofs.SendLemmas.{sent_continues}
use Rattle.gf_worker.specs.Playing.{IsRefusal, PlaysOn}
use Rattle.gf_site.proofs.CourseLemmas.{course_ready}
use Rattle.gf_worker.proofs.PlayLemmas.{played_turn}

-- what was judged is one more turn
module _ (w : Work) (report : Report) (short : Bool) (n : ℕ) (i : OpId) (r : Option Cause)
    (judges : Judges i w r) (reported : IsRefusal n r true w.report report)
    (commands : List Command) (count : n ≡ 1 + length commands)
    (u : IsUnderway commands w) where
  awaited : IsPlayed w.site.number (commands ++ Await i ∷ []) w.site.ops report
  awaited = played_turn w.site.number commands w.site.ops w.report report u.played (Await i) r
      judges.answer refl (ap (λ v. v.items) reported.accepted)
      (subst (λ k. report.refused.items ≡ w.report.refused.items ++ refusal_of k r) count
      (reported.refused refl))

  silent_all : (t : Turn) → Contains awaited.turns t → t.refusal ≡ Some NeverComes
      → IsSilent (record w { report = report; short = short }) t
  unfolding awaited played_turn
  silent_all t c e = elim (Contains-push_cases u.played.turns
      (record { command = Await i; before = w.site.ops; refusal = r }) t c) [
        | inl k ↦ let q = u.silent t k e in record {
          ended = q.ended;
          none = q.none;
          ready = q.ready;
        }
        | inr q ↦
            let s = judges.silent (ap (λ (x : Turn). x.refusal) q ∙ e) in
            subst (IsSilent (record w { report = report; short = short })) q
            (record { ended = s.0; none = s.1; ready = course_ready u.course })
      ]

  pub underway_await : IsUnderway (commands ++ Await i ∷ [])
      (record w { report = report; short = short })
  underway_await = record { course = u.course; played = awaited; silent = silent_all }

-- another report alone changes nothing of what came
pub gathers_report : (w : Work) (report : Report) (short : Bool) → (short ≡ false → w.short ≡ false)
    → Gathers w → Gathers (record w { report = report; short = short })
gathers_report w report short l g = record {
  has = g.has;
  holds = g.holds;
  keeps = λ e. g.keeps (l e);
}

pub sent_report : (w : Work) (report : Report) (short : Bool) → (short ≡ false → w.short ≡ false)
    → AreSent w → AreSent (record w { report = report; short = short })
sent_report w report short l t p k = let i = t p k in record {
  first = i.first;
  rest = i.rest;
  whole = i.whole;
  sent = i.sent;
  all = λ e. i.all (l e);
}

-- a report with the same entries
pub underway_entries : (w : Work) (report : Report) (short : Bool)
    → report.accepted.items ≡ w.report.accepted.items
    → report.refused.items ≡ w.report.refused.items → (commands : List Command)
    → IsUnderway commands w →
    IsUnderway commands (record w { report = report; short = short })
underway_entries w report short a r commands u = let p = u.played in record {
  course = u.course;
  played = record {
    turns = p.turns;
    each = p.each;
    right = p.right;
    rising = p.rising;
    counted = p.counted;
    made = p.made;
    accepted = a ∙ p.accepted;
    refused = r ∙ p.refused;
  };
  silent = λ t c e. let q = u.silent t c e in record {
    ended = q.ended;
    none = q.none;
    ready = q.ready;
  };
}

-- a report with the same entries, where memory was refused
underway_same : (w : Work) (report : Report) (short : Bool) (n : ℕ) (r : Option Cause)
    → IsRefusal n r false w.report report → (commands : List Command) → IsUnderway commands w
    → IsUnderway commands (record w { report = report; short = short })
underway_same w report short n r reported commands u = let p = u.played in record {
  course = u.course;
  played = record {
    turns = p.turns;
    each = p.each;
    right = p.right;
    rising = p.rising;
    counted = p.counted;
    made = p.made;
    accepted = ap (λ v. v.items) reported.accepted ∙ p.accepted;
    refused = reported.same refl ∙ p.refused;
  };
  silent = λ t c e. let q = u.silent t c e in record {
    ended = q.ended;
    none = q.none;
    ready = q.ready;
  };
}

pub plays_await : (old mid : Work) (report : Report) (n : ℕ) (i : OpId) (r : Option Cause)
    (done : Bool) → Continues old mid → mid.short ≡ false → Judges i mid r
    → IsRefusal n r done mid.report report →
    PlaysOn n (Await i) old (record mid { report = report; short = not done })
plays_await old mid report n i r true c l judges refusal = record {
  placed = c.placed;
  seats = c.seats;
  number = c.number;
  short = λ e. c.short l;
  gathers = λ g. gathers_report mid report false (λ e. l) (c.gathers g);
  sent = λ g t. sent_report mid report false (λ e. l) (sent_continues old mid c g t);
  played = λ e commands k g u. underway_await mid report false n i r judges refusal commands k
      (c.underway commands g u);
  stays = λ e. absurd (true≢false (sym e));
}
plays_await old mid report n i r false c l judges refusal = record {
  placed = c.placed;
  seats = c.seats;
  number = c.number;
  short = λ e. c.short l;
  gathers = λ g. gathers_report mid report true (λ e. l) (c.gathers g);
  sent = λ g t. sent_report mid report true (λ e. l) (sent_continues old mid c g t);
  played = λ e. absurd (true≢false e);
  stays = λ e commands g u.
      inl (underway_same mid report true n r refusal commands (c.underway commands g u));
}

-- a worker that became short while it waited
pub plays_short : (old new : Work) (n : ℕ) (c : Command) → Continues old new → new.short ≡ true
    → PlaysOn n c old new
plays_short old new n c go e = record {
  placed = go.placed;
  seats = go.seats;
  number = go.number;
  short = go.short;
  gathers = go.gathers;
  sent = λ g t. sent_continues old new go g t;
  played = λ q. absurd (true≢false (sym e ∙ q));
  stays = λ q commands g u. inl (go.underway commands g u);
}
