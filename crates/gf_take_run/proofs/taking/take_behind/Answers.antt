use Rattle.std.proofs.Common.{◌≡◌, List, ap, refl, subst}
use Rattle.std.proofs.lemmas.Result.{err_from_is_err_and}
use Rattle.gf_ops.specs.declared.op.Op.{Op}
use Rattle.gf_site.specs.SiteState.{SiteState}
use Rattle.gf_take_run.specs.TakeSteps.{RefusesDrawing}
use Rattle.gf_take_run.specs.TakenBehind.{TakesBehind, TakesSo}
use Rattle.gf_take_run.proofs.TakeLemmas.{refused_behind, taken_behind}
use Rattle.gf_take_run.proofs.taking.take_behind.Goals as goal

pub returns-in_err-site-clause-refused : goal.returns-in_err-site-clause-refused
returns-in_err-site-clause-refused c = λ known divided.
    let p = err_from_is_err_and c.from_residual.result
    c.from_residual.ensures.1 in
    rw (p.1, p.2) (c.in_err-site.ensures.refused c.args.request known c.args.fig.now refl divided)

pub returns-in_err-drawn-clause-refused : goal.returns-in_err-drawn-clause-refused
returns-in_err-drawn-clause-refused c = λ known divided.
    let p = err_from_is_err_and c.from_residual-in_err-drawn.result
    c.from_residual-in_err-drawn.ensures.1 in
    rw (p.1, p.2) (c.in_err-drawn.ensures.refused c.args.request known c.in_ok-site.site.ops
    (c.in_ok-site.ensures.ok known divided))

pub returns-in_err-take_drawing-clause-refused : goal.returns-in_err-take_drawing-clause-refused
returns-in_err-take_drawing-clause-refused c = λ known divided.
    let p = err_from_is_err_and c.from_residual-in_err-take_drawing.result
    c.from_residual-in_err-take_drawing.ensures.1 in
    let d = c.in_ok-drawn.drawn in
    let fault = c.in_err-take_drawing.field-0.0 in
    rw (p.1, p.2) (refused_behind c.args.request known c.args.fig.now c.in_ok-site.site.ops
    (c.in_ok-site.ensures.ok known divided) d.drawing d.knew c.in_ok-drawn.ensures.ok fault
    (subst (λ (x : SiteState). RefusesDrawing c.args.request x.ops c.args.fig.now d.drawing d.knew fault)
    c.new-site.ensures c.in_err-take_drawing.ensures.refused))

pub returns-clause-ok : goal.returns-clause-ok
returns-clause-ok c = λ known divided.
    let d = c.in_ok-drawn.drawn in
    let t = c.in_ok-take_drawing.field-0 in
    let site = c.in_ok-site.site in
    let same : site.ops ≡ c.args.replica.ops = ap (λ (x : SiteState). x.ops)
    c.in_ok-site.ensures.same in
    subst (λ (h : List Op). TakesBehind c.args.request known h c.args.fig.now t.ops.items t.answer) same
    (taken_behind c.args.request known c.args.fig.now site.ops (c.in_ok-site.ensures.ok known divided)
    d.drawing d.knew c.in_ok-drawn.ensures.ok t.ops.items t.answer
    (subst (λ (x : SiteState). TakesSo c.args.request x.ops c.args.fig.now d.drawing d.knew t.ops.items
    t.answer) c.new-site.ensures c.in_ok-take_drawing.ensures.ok))
