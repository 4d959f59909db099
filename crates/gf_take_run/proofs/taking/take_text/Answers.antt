use Rattle.std.proofs.Common.{refl}
use Rattle.std.proofs.lemmas.Result.{err_from_is_err_and}
use Rattle.gf_run.specs.declared.studio_error.StudioError.TheVariants as studio
use Rattle.gf_take_run.specs.TakeRun.{input, no_drawing}
use Rattle.gf_take_run.proofs.TakeLemmas.{text_refused, text_taken}
use Rattle.gf_take_run.proofs.taking.take_text.Goals as goal

pub returns-in_err-parts-clause-refused : goal.returns-in_err-parts-clause-refused
returns-in_err-parts-clause-refused g c =
    let p = err_from_is_err_and c.from_residual.result c.from_residual.ensures.1 in
    rw p.1 (input studio.OutOfMemory p.2 tt)

pub returns-in_default-clause-refused : goal.returns-in_default-clause-refused
returns-in_default-clause-refused g c = no_drawing refl
    (rw c.in_default.is at c.in_ok-parts.ensures.none)

pub returns-clause-ok : goal.returns-clause-ok
returns-clause-ok g c =
    text_taken c.args.request c.args.bytes.items c.in-Some.parts.lines.items c.in-Some.parts.fig.items
    (rw c.in-Some.is at c.in_ok-parts.ensures.parted) c.take_parts.result c.take_parts.ensures.ok

pub returns-clause-refused : goal.returns-clause-refused
returns-clause-refused g c =
    text_refused c.args.request c.args.bytes.items c.in-Some.parts.lines.items
    c.in-Some.parts.fig.items
    (rw c.in-Some.is at c.in_ok-parts.ensures.parted) c.take_parts.result
    c.take_parts.ensures.refused
