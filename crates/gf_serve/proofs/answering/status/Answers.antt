use Rattle.std.proofs.Common.{refl}
use Rattle.gf_replay.proofs.ReadingLemmas.{divided}
use Rattle.gf_serve.specs.declared.reply.Reply.TheVariants as reply
use Rattle.gf_serve.specs.declared.request.Request.TheVariants as request
use Rattle.gf_serve.proofs.AnswerLemmas.{unchanged}
use Rattle.gf_serve.proofs.answering.status.Goals as goal

pub returns-in-Ok-clause-answers : goal.returns-in-Ok-clause-answers
returns-in-Ok-clause-answers c = λ known d. let x = c.args.replica.now in
    unchanged known (request.Status c.args.notation) (reply.Status c.in-Ok.status) x d (
      record {
        history = x.ops;
        waiting = x.held;
        divided = divided known x d c.recall_state.ensures.held;
        tells = c.in-Ok.ensures.tells;
      },
      refl,
    )
