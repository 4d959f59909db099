use Rattle.std.specs.Prelude.{Some, find}
use Rattle.std.proofs.Common.{◌≡◌, ◌∙◌, ap, refl, rules}
use Rattle.gf_causal.specs.Waiting.{waits_for}
use Rattle.gf_edit.specs.Waiting.{is_blocking}
use Rattle.gf_edit.proofs.waiting.check_waiting.Goals as goal

pub returns-in-Some-clause-err : goal.returns-in-Some-clause-err
returns-in-Some-clause-err c =
    let first : find (is_blocking c.args.site.now.number c.args.site.now.ops)
    c.args.site.now.held ≡ Some c.in-Some.op.now = search rules in
    let waits = c.waits_for.ensures ∙ ap (λ h. waits_for h c.in-Some.op.now)
    c.history-in-Some.ensures.ops in
    record { op = c.in-Some.op.now; first = first; named = refl; waits = waits }
