use Rattle.std.proofs.Common.{refl}
use Rattle.gf_json.specs.ScriptLines.{is_command}
use Rattle.gf_session_run.proofs.LineLemmas.{fault_refused, full_refused, scripts_gain}
use Rattle.gf_session_run.proofs.ScriptLemmas.{placed}
use Rattle.gf_session_run.proofs.scripts.take_line.Goals as goal

pub returns-in-Err-clause-err : goal.returns-in-Err-clause-err
returns-in-Err-clause-err c = λ n bytes left has. rw c.line_refusal.ensures
    (fault_refused n bytes c.args.number c.args.line.now left c.args.scripts.now has _
    c.in-Err.ensures.denoted c.in-Err.fault refl)

pub returns-then-is_full-clause-err : goal.returns-then-is_full-clause-err
returns-then-is_full-clause-err c = λ n bytes left has.
    let l = c.in-Ok.read in
    full_refused n bytes c.args.number c.args.line.now left c.args.scripts.now has _
    c.in-Ok.ensures.denoted l refl _
    (placed l.site _ (is_command l.command) c.from-index.ensures c.in-Ok.ensures.in_range)
    (c.is_full.ensures.0 c.if-is_full.true)

pub returns-in-Ok-give-clause-ok : goal.returns-in-Ok-give-clause-ok
returns-in-Ok-give-clause-ok c = λ n bytes left has.
    let l = c.in-Ok.read in
    scripts_gain n bytes c.args.number c.args.line.now left c.args.scripts.now has _
    c.in-Ok.ensures.denoted l refl _
    (placed l.site _ (is_command l.command) c.from-index.ensures c.in-Ok.ensures.in_range)
    (λ full. let t = c.is_full.ensures.1 full in let f = c.if-is_full.false in absurd cc)
    c.give.new.scripts c.in-Ok-give.ensures
