use Rattle.std.proofs.Common.{◌∙◌, ap, ◌++◌}
use Rattle.gf_ops.specs.OperationOrder.{entry}
use Rattle.gf_fig_named.specs.Comments.{known_site}
use Rattle.gf_fig_named.proofs.TextLemmas.{sites_done, sites_pushed}
use Rattle.gf_fig_named.proofs.comments.known_sites.Goals as goal

pub loop-site-preserved : goal.loop-site-preserved
loop-site-preserved c =
    sites_pushed (λ s. known_site s (entry c.args.counts.now s)) c.loop-site.text.items
    c.push_known.new.out.items _ c.loop-site.site 9 c.loop-site-test.true
    (c.in_ok-push_known.ensures ∙ ap (λ n. c.loop-site.text.items ++ known_site c.loop-site.site n)
    c.count_at.ensures) c.loop-site.invariant

pub returns : goal.returns
returns c =
    sites_done (λ s. known_site s (entry c.args.counts.now s)) c.loop-site.text.items _
    c.loop-site.site 9 c.loop-site-test.false c.loop-site.invariant
