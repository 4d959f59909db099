use Rattle.gf_replay.proofs.GotLemmas.{denotes_read}
use Rattle.gf_check.proofs.CheckingLemmas.{goes_on_command, goes_on_fault}
use Rattle.gf_check.proofs.lines.take_line.Goals as goal

pub returns-in-Ok-Operation : goal.returns-in-Ok-Operation
returns-in-Ok-Operation c = c.take_op.ensures c.args.editor c.args.line.now
    (denotes_read _ _ _ c.read_entry.ensures.denoted (rw c.in-Ok-Operation.field-0-is
    (rw c.in-Ok-Operation.field-0-is at c.in-Ok-Operation.is)))

pub returns-in-Ok-Command : goal.returns-in-Ok-Command
returns-in-Ok-Command c = goes_on_command c.args.editor c.args.number c.args.line.now _ _ _
    (denotes_read _ _ _ c.read_entry.ensures.denoted
    (rw c.in-Ok-Command.field-0-is at c.in-Ok-Command.is))

pub returns : goal.returns
returns c = goes_on_fault c.args.editor c.args.number c.args.line.now
    c.args.check.now.replica c.tell_line.new.check.replica c.args.check.now.telling
    c.tell_line.new.check.telling c.tell_line.result c.read_entry.result
    c.read_entry.ensures.denoted c.in-Err.fault c.in_ok-cause-in-Err.cause c.in-Err.is
    (c.in_ok-cause-in-Err.ensures c.args.number) c.tell_line.ensures.replica c.tell_line.ensures.tells
