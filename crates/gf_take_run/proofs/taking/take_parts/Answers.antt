use Rattle.std.proofs.Common.{subst}
use Rattle.std.proofs.lemmas.Result.{err_from_is_err_and}
use Rattle.gf_site.specs.SiteState.{SiteState}
use Rattle.gf_take_run.specs.TakeSteps.{RefusesDrawing}
use Rattle.gf_take_run.specs.TakenBehind.{TakesSo}
use Rattle.gf_take_run.proofs.TakeLemmas.{lines_refused, refused_behind, taken_behind}
use Rattle.gf_take_run.proofs.taking.take_parts.Goals as goal

pub returns-in_err-site-clause-refused : goal.returns-in_err-site-clause-refused
returns-in_err-site-clause-refused g c =
    let p = err_from_is_err_and c.from_residual.result c.from_residual.ensures.1 in
    rw (p.1, p.2) (c.in_err-site.ensures.refused c.args.parts.fig.items)

pub returns-in_err-drawn-clause-refused : goal.returns-in_err-drawn-clause-refused
returns-in_err-drawn-clause-refused g c =
    let p = err_from_is_err_and c.from_residual-in_err-drawn.result
    c.from_residual-in_err-drawn.ensures.1 in
    let r = c.in_ok-site.ensures.ok in
    rw (p.1, p.2) (lines_refused c.args.request c.args.parts.lines.items c.args.parts.fig.items r.ops
    r.denoted c.in_err-drawn.field-0.0 (rw c.deref.ensures.value at c.in_err-drawn.ensures.refused
    c.args.request r.ops c.in_ok-site.site.ops r.read))

pub returns-in_err-taken-clause-refused : goal.returns-in_err-taken-clause-refused
returns-in_err-taken-clause-refused g c =
    let p = err_from_is_err_and c.from_residual-in_err-taken.result
    c.from_residual-in_err-taken.ensures.1 in
    let r = c.in_ok-site.ensures.ok in
    let d = c.in_ok-drawn.drawn in
    let refused = rw c.deref-2.ensures.value at c.in_err-taken.ensures.refused in
    let behind = subst (λ (x : SiteState). RefusesDrawing c.args.request x.ops c.args.parts.fig.items
    d.drawing d.knew c.in_err-taken.field-0.0) c.of-site.ensures refused in
    rw (p.1, p.2) (lines_refused c.args.request c.args.parts.lines.items c.args.parts.fig.items r.ops
    r.denoted _ (refused_behind c.args.request r.ops c.args.parts.fig.items
    c.in_ok-site.site.ops r.read d.drawing d.knew
    (rw c.deref.ensures.value at c.in_ok-drawn.ensures.ok) c.in_err-taken.field-0.0 behind))

pub take_drawing-requires-clause-named : goal.take_drawing-requires-clause-named
take_drawing-requires-clause-named g c =
    rw c.deref-2.ensures.value (rw c.deref.ensures.value at c.in_ok-drawn.ensures.named)

pub returns-clause-ok : goal.returns-clause-ok
returns-clause-ok g c =
    let r = c.in_ok-site.ensures.ok in
    let d = c.in_ok-drawn.drawn in
    let taken = c.in_ok-taken.taken in
    let takes = rw c.deref-2.ensures.value at c.in_ok-taken.ensures.ok in
    record {
      ops = r.ops;
      denoted = r.denoted;
      history = c.in_ok-site.site.ops;
      new = taken.ops.items;
      takes = taken_behind c.args.request r.ops c.args.parts.fig.items c.in_ok-site.site.ops r.read
          d.drawing d.knew (rw c.deref.ensures.value at c.in_ok-drawn.ensures.ok) taken.ops.items
          taken.answer (subst (λ (x : SiteState). TakesSo c.args.request x.ops
          c.args.parts.fig.items d.drawing d.knew taken.ops.items taken.answer) c.of-site.ensures
          takes);
    }
