use Rattle.std.proofs.Common.{◌≡◌, List, ◌++◌, ◌∙◌, ap, subst, sym}
use Rattle.gf_ops.specs.declared.op.Op.{Op}
use Rattle.gf_kept.specs.SameOn.{HaveSameBut}
use Rattle.gf_site.specs.SiteState.{SiteState}
use Rattle.gf_take_run.proofs.behind.joined.Goals as goal

pub with_kept-requires-clause-same : goal.with_kept-requires-clause-same
with_kept-requires-clause-same c =
    let apart = c.args.apart.now in
    let had : c.history.result.now.ops ≡ c.args.base.ops = c.history.ensures.ops
    ∙ ap (λ (x : SiteState). x.ops) c.into_parts-base.ensures.site in
    subst (HaveSameBut apart c.history.result.now.ops) (sym (ap (λ (x : SiteState). x.ops)
    c.in_ok-add_all.ensures))
    (subst (λ (h : List Op). HaveSameBut apart h (c.args.whole.ops ++ c.args.new.now)) (sym had)
    c.requires.same)
