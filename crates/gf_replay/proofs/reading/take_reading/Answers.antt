use Rattle.gf_replay.proofs.ReadingLemmas.{fault_refused_of, op_refused_of, op_taken_of}
use Rattle.gf_replay.proofs.reading.take_reading.Goals as goal

pub returns-in-Ok-clause-ok : goal.returns-in-Ok-clause-ok
returns-in-Ok-clause-ok c = λ line reads known text left read.
    op_taken_of known text line left c.args.replica.now read c.args.reading reads c.in-Ok.op c.in-Ok.is
    c.take_op.new.replica c.take_op.result c.take_op.ensures.ok

pub returns-in-Ok-clause-err : goal.returns-in-Ok-clause-err
returns-in-Ok-clause-err c = λ line reads known text left read.
    op_refused_of known text line left c.args.replica.now read c.args.reading reads c.in-Ok.op c.in-Ok.is
    c.take_op.result c.take_op.ensures.err

pub returns-in-Err-clause-err : goal.returns-in-Err-clause-err
returns-in-Err-clause-err c = λ line reads known text left read. rw c.line_refusal.ensures
    (fault_refused_of known text line left c.args.replica.now read c.args.reading reads c.in-Err.fault
    c.in-Err.is)
