use Rattle.std.proofs.Common.{refl}
use Rattle.std.proofs.lemmas.Result.{IfOk-weaker}
use Rattle.gf_site.specs.ReplicaSteps.{StepsOnce}
use Rattle.gf_site.specs.SiteState.{at_site}
use Rattle.gf_site.specs.Events.{Steps}
use Rattle.gf_site.proofs.site.Site.step.Goals as goal

pub returns-clause-ok : goal.returns-clause-ok
returns-clause-ok c =
    let n = c.self.inside.number in
    let x = c.self.inside.replica in
    let y = c.step.new.self in
    rw (← c.self.view_is) (IfOk-weaker c.step.result (λ s. StepsOnce x s y)
    (λ s. Steps (at_site n x) s (at_site n y)) (λ s t. (t, refl)) c.step.ensures.ok)
