use Rattle.std.proofs.lemmas.Result.{err_from_is_err_and}
use Rattle.gf_edit.proofs.ReceivingLemmas.{lines_none}
use Rattle.gf_edit.proofs.reading.read_lines.Goals as goal

pub loop-number-init : goal.loop-number-init
loop-number-init c = lines_none c.args.editor c.args.text.items _ _ c.new-lines.ensures
    c.new.ensures c.new-2.ensures.items

pub loop-number-preserved : goal.loop-number-preserved
loop-number-preserved c = rw c.advance.ensures (c.in_ok-take_line.ensures.ok c.args.text.items _
    (rw c.in-Some.ensures.some at c.loop-number.invariant))

pub returns-in_err-take_line-clause-err : goal.returns-in_err-take_line-clause-err
returns-in_err-take_line-clause-err c =
    let p = err_from_is_err_and c.from_residual.result c.from_residual.ensures.1 in
    rw (p.1, p.2) (c.in_err-take_line.ensures.err c.args.text.items _
    (rw c.in-Some.ensures.some at c.loop-number.invariant))
