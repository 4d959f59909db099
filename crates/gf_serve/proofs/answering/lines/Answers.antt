use Rattle.std.proofs.Common.{◌≡◌, ◌+◌, ◌++◌, ◌∙◌, length, refl, subst, sym}
use Rattle.gf_causal.specs.HeldOperations.{AreHeld}
use Rattle.gf_replay.specs.Behind.{DeliversLines, HasDelivered}
use Rattle.gf_site.specs.ReplicaState.{ReplicaState}
use Rattle.gf_serve.specs.Serving.{AnswersNext, RefusesLines}
use Rattle.gf_serve.specs.declared.reply.Refusal.TheVariants as refusal
use Rattle.gf_serve.specs.declared.reply.Reply.TheVariants as reply
use Rattle.gf_serve.specs.declared.request.Request.TheVariants as request
use Rattle.gf_serve.proofs.AnswerLemmas.{lines_refused, lines_taken, unchanged}
use Rattle.gf_serve.proofs.answering.lines.Goals as goal

pub returns-in-Some-clause-answers : goal.returns-in-Some-clause-answers
returns-in-Some-clause-answers g c = λ known d.
    let old = c.args.replicas.now in
    let next = c.in-Ok-read_behind.next in
    let came = c.in-Some.came in
    let newest : c.newest.result.now ≡ old = c.newest.ensures ∙ c.copy.ensures.same in
    let t : DeliversLines known c.args.text.items next =
    c.in-Ok-read_behind.ensures.ok known (subst (HasDelivered known) (sym c.in-Ok.ensures.copy) d) in
    subst (AnswersNext known (request.Lines c.args.text) (reply.Lines came)) (sym c.replace.ensures)
    (record {
      next = known ++ t.ops;
      answers = lines_taken known c.args.text.items came old next d
          (subst (λ (x : ReplicaState). AreHeld x.held) newest c.in-Some.ensures.valid.0)
          c.in-Some.ensures.valid.1 t
          (subst (λ (x : ReplicaState). came.new + (length x.ops + length x.held)
          ≡ length next.ops + length next.held) newest c.in-Some.ensures.new)
          c.in-Some.ensures.waiting;
      delivered = t.delivered;
    })

pub returns-in-Err-clause-answers : goal.returns-in-Err-clause-answers
returns-in-Err-clause-answers g c = λ known d.
    let answer = reply.Refused (refusal.Run c.from.result) in
    subst (AnswersNext known (request.Lines c.args.text) answer) (sym c.copy.ensures.same)
    (unchanged known (request.Lines c.args.text) answer c.args.replicas.now d (
      subst (RefusesLines known c.args.text.items) (sym c.from.ensures)
          (lines_refused known c.args.text.items c.in-Err.fault
          (c.in-Err.ensures.err known (subst (HasDelivered known) (sym c.in-Ok.ensures.copy) d))),
      refl,
    ))
