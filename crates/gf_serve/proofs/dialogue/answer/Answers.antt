use Rattle.std.proofs.Common.{subst, sym, ◌∙◌}
use Rattle.gf_site.specs.ReplicaState.{ReplicaState}
use Rattle.gf_serve.specs.ServingSteps.{AnswersRawRequest}
use Rattle.gf_serve.proofs.AnswerLemmas.{asked_answered, none_answered}
use Rattle.gf_serve.proofs.dialogue.answer.Goals as goal
use Rattle.gf_serve.proofs.dialogue.answer.Goals.{in-None, in-Some}

pub returns-in-Ok-clause-answers : goal.returns-in-Ok-clause-answers
returns-in-Ok-clause-answers g c = λ known d. elim c.match-asks.branch [
  | in-Some w ↦ subst (λ (y : ReplicaState). AnswersRawRequest known c.args.raw c.in-Ok.text.items y)
      (sym w.service-is)
      (asked_answered known c.args.raw w.in-Some.asks w.request.result w.answer-reply.result
      w.reply_text-text.result c.in-Ok.text w.answer-reply.new.self w.in-Some.is
      w.request.ensures (w.answer-reply.ensures known d) (sym w.text-is ∙ c.in-Ok.is)
      w.reply_text-text.ensures)
  | in-None w ↦ subst (λ (y : ReplicaState). AnswersRawRequest known c.args.raw c.in-Ok.text.items y)
      (sym w.service-is)
      (none_answered known c.args.raw w.refused_text-text.result c.in-Ok.text
      c.args.service.now w.in-None.is d (sym w.text-is ∙ c.in-Ok.is)
      w.refused_text-text.ensures)
]
