use Rattle.std.proofs.Common.{◌++◌, subst, sym}
use Rattle.gf_site.specs.SiteState.{SiteState}
use Rattle.gf_take_run.specs.TakeSteps.{IsMaking}
use Rattle.gf_take_run.proofs.MakingLemmas.{making_more, making_refused}
use Rattle.gf_take_run.proofs.planning.make_more.Goals as goal

pub returns-in-Err-clause-refused : goal.returns-in-Err-clause-refused
returns-in-Err-clause-refused c = λ s b fig d m.
    c.refusal.ensures s b (m.changes ++ c.args.changes.items) fig d
    (making_refused s b c.args.making.now m c.args.changes.items c.in-Err.fault
    c.in-Err.ensures.err)

pub returns-in-Some-clause-made : goal.returns-in-Some-clause-made
returns-in-Some-clause-made c = λ s b m.
    subst (λ (x : SiteState). IsMaking s b (record { site = x; ops = c.add_all.new.ops }))
    (sym c.in_ok-shown.ensures.same)
    (making_more s b c.args.making.now m c.args.changes.items c.in-Ok.ops.items
    (record { site = c.make_all.new.site; ops = c.add_all.new.ops })
    c.in-Ok.ensures.ok c.in_ok-add_all.ensures)
