use Rattle.std.proofs.Common.{sym, subst, ◌∙◌}
use Rattle.std.specs.Prelude.{◌<◌, ◌↔◌, List, Contains}
use Rattle.gf_ops.specs.declared.op.OpId.{OpId}
use Rattle.gf_names.specs.LastConflict.{AreOfOneSite}
use Rattle.gf_names.proofs.TellingLemmas.{Tells, site_first, site_more, site_last, one_site}
use Rattle.gf_names.proofs.TellingLemmas.{told_none}
use Rattle.gf_names.proofs.names.telling.Goals as goal

pub loop-site-init : goal.loop-site-init
loop-site-init c =
    let h = c.args.history.now.ops in
    subst (λ (s : List OpId). (i : OpId)
    → Contains s i ↔ ((i.site < 1) × Tells h c.args.members.now c.args.others.now i))
    (sym c.new-found.ensures.items)
    (site_first h c.args.members.now c.args.others.now c.recall_valid.ensures)

pub add_lasts-requires : goal.add_lasts-requires
add_lasts-requires c = subst AreOfOneSite (sym (c.deref.ensures.value ∙ c.in_ok-own.ensures))
    (one_site c.args.history.now.ops c.args.members.now c.args.others.now c.loop-site.site)

pub loop-site-preserved : goal.loop-site-preserved
loop-site-preserved c =
    site_more c.args.history.now.ops c.args.members.now c.args.others.now c.loop-site.found.items
    c.add_lasts.new.found.items c.deref.result.now c.loop-site.site
    (c.deref.ensures.value ∙ c.in_ok-own.ensures) c.loop-site.invariant c.in_ok-add_lasts.ensures

pub returns : goal.returns
returns c =
    site_last c.args.history.now.ops c.args.members.now c.args.others.now c.recall_valid.ensures
    c.loop-site.found.items c.deref-2.result.now c.deref-2.ensures.value c.loop-site.site
    c.rising-2.result
    c.loop-site-test.false c.loop-site.invariant c.rising-2.ensures

pub returns-then-is_empty : goal.returns-then-is_empty
returns-then-is_empty c =
    told_none c.args.history.now.ops c.args.members.now c.args.others.now
    (sym c.is_empty.ensures ∙ c.if-is_empty.true) c.rising.result c.rising.ensures
