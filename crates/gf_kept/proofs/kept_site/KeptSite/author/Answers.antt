use Rattle.std.proofs.Common.{subst}
use Rattle.std.proofs.lemmas.Result.{err_from_is_err_and}
use Rattle.gf_site.specs.Events.{Refuses}
use Rattle.gf_site.specs.SiteState.{SiteState}
use Rattle.gf_kept.proofs.kept_site.KeptSite.author.Goals as goal

pub returns-in_err-op-clause-err : goal.returns-in_err-op-clause-err
returns-in_err-op-clause-err c =
    let p = err_from_is_err_and c.from_residual.result c.from_residual.ensures.1 in
    rw (p.1, p.2) (subst
    (λ (s : SiteState). Refuses s.number s.ops c.args.change c.in_err-op.field-0.0)
    c.self.view_is c.in_err-op.ensures.err)
