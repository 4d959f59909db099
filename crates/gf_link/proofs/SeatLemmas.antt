-- What a step leaves of a seat.
use Rattle.std.proofs.Common.{◌≡◌, ◌+◌, true, false, List, [], ◌∷◌, ◌++◌, length, sym, ap, ◌∙◌}
use Rattle.std.proofs.Common.{subst, arith, length-append}
use Rattle.std.specs.Prelude.{IsTrue, IsFalse}
use Rattle.crossbeam_queue.specs.Passes.{Pass, view}
use Rattle.gf_link.specs.declared.message.Message.{Message}
use Rattle.gf_link.specs.declared.rule.Log.{Log}
use Rattle.gf_link.specs.declared.seats.SendSeat.TheInside.{Inside as SendInside}
use Rattle.gf_link.specs.declared.seats.TakeSeat.TheInside.{Inside as TakeInside}
use Rattle.gf_link.specs.Ends.{is_end, is_ended, ends_last}
use Rattle.gf_link.specs.Kept.{log, TakesMessage}
use Rattle.gf_link.specs.Seated.{IsSender, IsTaker}
use Rattle.gf_link.proofs.EndLemmas.{ended_last, ended_more, ended_whole}

pub sender_more : (s : SendInside) (p : Pass Message Log) (m : Message) → IsSender s
    → p.me.1 ≡ s.pass.me.1 → IsFalse (is_ended (view s.pass).sent)
    → view p ≡ log (view s.pass).sends (view s.pass).takes ((view s.pass).sent ++ m ∷ [])
    (view s.pass).taken
    → IsSender record { pass = p; sent = s.sent + 1; ended = is_end m }
sender_more s p m h same still grown =
    let sent : (view p).sent ≡ (view s.pass).sent ++ m ∷ [] = ap (λ v. v.sent) grown in
    let may : (view s.pass).sends ≡ true = ap (λ v. v.sends) h.role in
    let not : (view s.pass).takes ≡ false = ap (λ v. v.takes) h.role in
    let none : (view s.pass).taken ≡ [] = ap (λ v. v.taken) h.role in record {
      idle = same ∙ h.idle;
      role = grown ∙ (λ i. log (may i) (not i) (sym sent i) (none i));
      counted = (let n = h.counted in
          omega (arith, ap length sent, length-append (view s.pass).sent (m ∷ [])));
      noted = sym (ended_last (view s.pass).sent m still) ∙ ap is_ended (sym sent);
    }

pub taker_more : (s : TakeInside) (p : Pass Message Log) (m : Message) → IsTaker s
    → p.me.1 ≡ s.pass.me.1 → TakesMessage (view s.pass) m (view p)
    → IsTaker record { pass = p; taken = s.taken + 1; ended = is_end m }
taker_more s p m h same t =
    let taken : (view p).taken ≡ (view s.pass).taken ++ m ∷ [] = ap (λ v. v.taken) t.grown in
    let not : (view s.pass).sends ≡ false = ap (λ v. v.sends) h.role in
    let may : (view s.pass).takes ≡ true = ap (λ v. v.takes) h.role in
    let none : (view s.pass).sent ≡ [] = ap (λ v. v.sent) h.role in
    let counted : s.taken + 1 ≡ length (view p).taken = (let n = h.counted in
    omega (arith, ap length taken, length-append (view s.pass).taken (m ∷ []))) in
    let lasts : IsTrue (ends_last ((view s.pass).taken ++ m ∷ [])) = subst
    (λ xs. IsTrue (ends_last xs)) taken t.lasts in record {
      idle = same ∙ h.idle;
      role = t.grown ∙ (λ i. log (not i) (may i) (none i) (sym taken i));
      counted = counted;
      few = (let f = t.few in omega arith);
      noted = sym (ended_more (view s.pass).taken m lasts) ∙ ap is_ended (sym taken);
      lasts = t.lasts;
    }

-- where an End or a Stop was taken, all was taken
pub whole : (v : Log) (sent taken items : List Message) → v ≡ log true true sent taken
    → v.sent ≡ v.taken ++ items → IsTrue (ends_last v.sent) → IsTrue (is_ended taken) → taken ≡ sent
whole v sent taken items is e l ended =
    let all : sent ≡ taken ++ items = sym (ap (λ w. w.sent) is) ∙ e
    ∙ ap (λ w. w.taken ++ items) is in
    let lasts : IsTrue (ends_last (taken ++ items)) = subst (λ xs. IsTrue (ends_last xs))
    (e ∙ ap (λ w. w.taken ++ items) is) l in
    ended_whole taken items lasts ended ∙ sym all
