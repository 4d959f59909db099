use Rattle.std.proofs.Common.{subst}
use Rattle.gf_edit.specs.declared.edit_error.EditError.{EditError}
use Rattle.gf_edit.specs.EntrySteps.{HoldsBlocking, RefusesWaiting}
use Rattle.gf_take_run.proofs.TakeLemmas.{are_read, has_blocking}
use Rattle.gf_take_run.proofs.reading.site_of.Goals as goal

pub returns-in-Ok-clause-ok : goal.returns-in-Ok-clause-ok
returns-in-Ok-clause-ok c = λ known divided.
    let is = c.with_replica-site.ensures in
    rw is (are_read c.args.number known c.args.replica divided
    c.recall_state.ensures.accepted (rw is at c.in-Ok.ensures.ok))

pub returns-in-Err-Waits-clause-refused : goal.returns-in-Err-Waits-clause-refused
returns-in-Err-Waits-clause-refused c = λ q known fig same divided.
    let is = c.with_replica-site.ensures in
    let waits : HoldsBlocking c.with_replica-site.result c.in-Err-Waits.id c.in-Err-Waits.other =
    subst (λ (e : EditError). RefusesWaiting c.with_replica-site.result e)
    c.in-Err-Waits.field-0-is c.in-Err-Waits.ensures.err in
    rw same (has_blocking c.args.number known c.args.replica divided
    c.in-Err-Waits.id c.in-Err-Waits.other (rw is at waits))
