use Rattle.std.proofs.Common.{◌≡◌, ◌++◌, ◌∙◌, List, refl, subst, sym, ℕ}
use Rattle.gf_causal.specs.HeldOperations.{AreHeld}
use Rattle.gf_replay.specs.Behind.{Divides}
use Rattle.gf_replay.proofs.ReadingLemmas.{divided}
use Rattle.gf_site.specs.ReplicaState.{ReplicaState}
use Rattle.gf_take_run.specs.TakeRun.{RefusesFigText}
use Rattle.gf_take_run.specs.TakenBehind.{TakesBehind}
use Rattle.gf_serve.specs.Serving.{AnswersNext}
use Rattle.gf_serve.specs.declared.reply.Refusal.TheVariants as refusal
use Rattle.gf_serve.specs.declared.reply.Reply.TheVariants as reply
use Rattle.gf_serve.specs.declared.request.Request.TheVariants as request
use Rattle.gf_serve.proofs.AnswerLemmas.{given_history, take_refused, taken_next, unchanged}
use Rattle.gf_serve.proofs.answering.take.Goals as goal

pub returns-in-Ok-take_behind-clause-answers : goal.returns-in-Ok-take_behind-clause-answers
returns-in-Ok-take_behind-clause-answers c = λ known d.
    let x = c.args.replicas.now in
    let t = c.args.text.now in
    let taken = c.in-Ok-take_behind.taken in
    let new = taken.ops.items in
    let y = c.take_history.new.self in
    let copied : c.in-Ok.copy ≡ x = c.in-Ok.ensures.copy in
    let held = subst (λ (r : ReplicaState). AreHeld r.held)
    (c.newest.ensures ∙ c.copy.ensures.same) c.recall_state.ensures.held in
    let divides = subst (λ (r : ReplicaState). Divides known r.ops r.held) (sym copied)
    (divided known x d held) in
    taken_next known t taken.answer new x y d
    (subst (λ (r : ReplicaState). TakesBehind t.request known r.ops t.fig.items new taken.answer)
    copied
    (subst (λ (fig : List ℕ). TakesBehind t.request known c.in-Ok.copy.ops fig new taken.answer)
    c.deref-2.ensures.value (c.in-Ok-take_behind.ensures.ok known divides)))
    (given_history x y c.into_parts-site.result.0 taken.site (x.ops ++ new)
    (subst (λ (r : ReplicaState). y ≡ record r { ops = c.into_parts-site.result.0.ops })
    c.copy.ensures.same c.take_history.ensures) c.into_parts-site.ensures.site
    (subst (λ (r : ReplicaState). taken.site.ops ≡ r.ops ++ new) copied
    c.in-Ok-take_behind.ensures.site))

pub returns-in-Err-clause-answers : goal.returns-in-Err-clause-answers
returns-in-Err-clause-answers c = λ known d.
    let x = c.args.replicas.now in
    let t = c.args.text.now in
    let answer = reply.Refused (refusal.Take c.in-Err.fault) in
    let held = subst (λ (r : ReplicaState). AreHeld r.held)
    (c.newest.ensures ∙ c.copy.ensures.same) c.recall_state.ensures.held in
    let divides = subst (λ (r : ReplicaState). Divides known r.ops r.held)
    (sym c.in-Ok.ensures.copy) (divided known x d held) in
    subst (AnswersNext known (request.Take t) answer) (sym c.copy.ensures.same)
    (unchanged known (request.Take t) answer x d (
      take_refused known t c.in-Err.fault
          (subst (λ (fig : List ℕ). RefusesFigText t.request known fig c.in-Err.fault)
          c.deref-2.ensures.value (c.in-Err.ensures.refused known divides)),
      refl,
    ))
