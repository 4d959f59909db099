use Rattle.std.proofs.Common.{sym, ap, ◌∙◌, ◌||◌}
use Rattle.gf_site.specs.SiteState.{SiteState}
use Rattle.gf_worker.proofs.HearLemmas.{hears_offer, or_second}
use Rattle.gf_worker.proofs.work.Work.receive.Goals as goal

pub returns-clause-hears : goal.returns-clause-hears
returns-clause-hears c =
    let w = c.args.self.now in
    let o = c.receive-offer.ensures in
    let n = c.number.ensures.number in
    hears_offer w.site.number w.site.ops w.site.held c.args.op c.receive-offer.result
    (w.short || c.ran_out.result) c.receive-offer.new.self.held
    (λ e. c.if-op-number.false (e ∙ sym n)) (λ e. sym c.ran_out.ensures
    ∙ or_second w.short c.ran_out.result e)
    (λ e. o.range.0 e) (λ e. (o.clash.0 e).1) (λ e. (o.already.0 e).1) (λ e. (o.held e).2)
    (λ d. ap (λ (t : SiteState). t.held) (o.same d))
