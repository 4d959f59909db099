use Rattle.std.proofs.Common.{refl, subst, sym}
use Rattle.gf_replay.proofs.ReadingLemmas.{divided}
use Rattle.gf_serve.specs.Serving.{RefusesNamed}
use Rattle.gf_serve.specs.declared.reply.Refusal.TheVariants as refusal
use Rattle.gf_serve.specs.declared.reply.Reply.TheVariants as reply
use Rattle.gf_serve.specs.declared.request.Request.TheVariants as request
use Rattle.gf_serve.proofs.AnswerLemmas.{named_refused, unchanged}
use Rattle.gf_serve.proofs.answering.named.Goals as goal

pub returns-in-Ok-clause-answers : goal.returns-in-Ok-clause-answers
returns-in-Ok-clause-answers c = λ known d. let x = c.args.replica.now in
    unchanged known request.Named (reply.Named c.in-Ok.named) x d (
      record {
        history = x.ops;
        waiting = x.held;
        divided = divided known x d c.recall_state.ensures.held;
        text = c.in-Ok.ensures.ok;
        thin = c.in-Ok.ensures.thin;
        wait = c.in-Ok.ensures.waiting;
      },
      refl,
    )

pub returns-in-Err-clause-answers : goal.returns-in-Err-clause-answers
returns-in-Err-clause-answers c = λ known d. let x = c.args.replica.now in
    unchanged known request.Named (reply.Refused (refusal.Run c.from.result)) x d (
      subst (RefusesNamed known) (sym c.from.ensures)
          (named_refused known x (divided known x d c.recall_state.ensures.held) c.in-Err.fault
          c.in-Err.ensures.err),
      refl,
    )
