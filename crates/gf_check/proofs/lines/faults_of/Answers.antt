use Rattle.gf_check.proofs.CheckingLemmas.{checked_all, checked_none}
use Rattle.gf_check.proofs.lines.faults_of.Goals as goal

pub loop-number-init : goal.loop-number-init
loop-number-init c = rw (c.new-lines.ensures, c.new.ensures)
    (checked_none c.args.editor c.args.text.items _ c.new-3.ensures)

pub loop-number-preserved : goal.loop-number-preserved
loop-number-preserved c = rw c.advance.ensures (c.in_ok-take_line.ensures c.args.text.items _
    (rw c.in-Some.ensures.some at c.loop-number.invariant))

pub returns : goal.returns
returns c = rw c.into_text.ensures
    (checked_all c.args.editor c.args.text.items c.loop-number.check.replica
    c.loop-number.check.telling c.recall_state.ensures.valid
    (rw c.in_default.ensures.none at c.loop-number.invariant))
