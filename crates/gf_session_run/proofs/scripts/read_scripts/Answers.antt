use Rattle.std.proofs.Common.{drop, length, subst, sym, ◌∙◌}
use Rattle.std.proofs.lemmas.Result.{err_from_is_err_and}
use Rattle.gf_session_run.specs.SessionSteps.{HasScripts}
use Rattle.gf_session_run.proofs.ScriptLemmas.{given_back}
use Rattle.gf_session_run.proofs.scripts.read_scripts.Goals as goal

pub loop-number-preserved : goal.loop-number-preserved
loop-number-preserved c =
    let old = c.loop-number.scripts in
    let new = c.take_line.new.scripts in
    let has = rw c.in-Some.ensures.some at c.loop-number.invariant in
    let more = c.in_ok-take_line.ensures.ok c.args.sites c.args.text.items
    (drop 1 c.loop-number.lines) (rw c.deref_mut.ensures.value has) in
    rw c.advance.ensures (subst
    (HasScripts c.args.sites c.args.text.items (drop 1 c.loop-number.lines))
    (sym (given_back old.len new (drop (length new) old.items)
    (old.ok.0 ∙ has.by_site.long ∙ sym more.by_site.long))) more)

pub returns-in_err-take_line-clause-err : goal.returns-in_err-take_line-clause-err
returns-in_err-take_line-clause-err c =
    let p = err_from_is_err_and c.from_residual.result c.from_residual.ensures.1 in
    let has = rw c.in-Some.ensures.some at c.loop-number.invariant in
    rw (p.1, p.2) (c.in_err-take_line.ensures.err c.args.sites c.args.text.items
    (drop 1 c.loop-number.lines) (rw c.deref_mut.ensures.value has))
