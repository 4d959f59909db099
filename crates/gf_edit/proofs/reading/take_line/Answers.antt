use Rattle.std.proofs.Common.{refl}
use Rattle.gf_edit.proofs.ReceivingLemmas.{lines_command, lines_op, refused_fault, refused_op}
use Rattle.gf_edit.proofs.reading.take_line.Goals as goal
use Rattle.gf_edit.proofs.reading.take_line.Goals.{in-Err-push, in-Ok}

pub returns-in-Ok-Operation-clause-ok : goal.returns-in-Ok-Operation-clause-ok
returns-in-Ok-Operation-clause-ok c = λ bytes left has.
    lines_op c.args.editor bytes c.args.number c.args.line.now left c.args.read.now has
    c.read_entry.result c.read_entry.ensures.denoted c.in-Ok-Operation.op
    (rw c.in-Ok-Operation.field-0-is at c.in-Ok-Operation.is) _ refl
    c.take_op.result c.take_op.ensures.ok

pub returns-in-Ok-Operation-clause-err : goal.returns-in-Ok-Operation-clause-err
returns-in-Ok-Operation-clause-err c = λ bytes left has.
    refused_op c.args.editor bytes c.args.number c.args.line.now left c.args.read.now has
    c.read_entry.result c.read_entry.ensures.denoted c.in-Ok-Operation.op
    (rw c.in-Ok-Operation.field-0-is at c.in-Ok-Operation.is)
    c.take_op.result c.take_op.ensures.err

pub returns-after-push-clause-ok : goal.returns-after-push-clause-ok
returns-after-push-clause-ok c = λ bytes left has. elim c.match-push.branch [
  | in-Ok w ↦ rw w.result-is (lines_command c.args.editor bytes c.args.number c.args.line.now left
      c.args.read.now has c.read_entry.result c.read_entry.ensures.denoted c.in-Ok-Command.command
      (rw c.in-Ok-Command.field-0-is at c.in-Ok-Command.is) _ refl w.in-Ok.ensures.items)
  | in-Err-push w ↦ rw w.result-is tt
]

pub returns-in-Err-clause-err : goal.returns-in-Err-clause-err
returns-in-Err-clause-err c = λ bytes left has. rw c.line_refusal.ensures
    (refused_fault c.args.editor bytes c.args.number c.args.line.now left c.args.read.now has
    c.read_entry.result c.read_entry.ensures.denoted c.in-Err.fault c.in-Err.is)
