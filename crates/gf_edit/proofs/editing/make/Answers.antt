use Rattle.gf_edit.proofs.EditLemmas.{edited_ok, refused_err, refused_waiting}
use Rattle.gf_edit.proofs.editing.make.Goals as goal

pub returns-in-Ok-clause-ok : goal.returns-in-Ok-clause-ok
returns-in-Ok-clause-ok c =
    let is = c.with_replica-site.ensures in
    edited_ok c.args.editor c.args.read c.recall_state.ensures.held (rw is at c.in-Ok.ensures.ok)
    c.make_all.new.site c.make_all.result (rw is at c.make_all.ensures.ok)

pub returns-in-Ok-clause-refused : goal.returns-in-Ok-clause-refused
returns-in-Ok-clause-refused c =
    let is = c.with_replica-site.ensures in
    refused_err c.args.editor c.args.read c.recall_state.ensures.held (rw is at c.in-Ok.ensures.ok)
    c.make_all.result (rw is at c.make_all.ensures.err)

pub returns-in-Err-clause-refused : goal.returns-in-Err-clause-refused
returns-in-Err-clause-refused c = λ bytes read. refused_waiting c.args.editor bytes c.args.read read
    c.recall_state.ensures.held c.in-Err.fault (rw c.with_replica-site.ensures at c.in-Err.ensures.err)
