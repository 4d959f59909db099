use Rattle.std.proofs.lemmas.Result.{err_from_is_err_and}
use Rattle.gf_replay.proofs.reading.take_and_read.Goals as goal

pub returns-in_err-replica-clause-err : goal.returns-in_err-replica-clause-err
returns-in_err-replica-clause-err g c = λ known text before.
    let p = err_from_is_err_and c.from_residual.result c.from_residual.ensures.1 in
    rw (p.1, p.2) (c.in_err-replica.ensures.err known text c.args.block.behind before)

pub returns-in_err-replica-2-clause-err : goal.returns-in_err-replica-2-clause-err
returns-in_err-replica-2-clause-err g c = λ known text before.
    let p = err_from_is_err_and c.from_residual-in_err-replica-2.result
    c.from_residual-in_err-replica-2.ensures.1 in
    rw (p.1, p.2) (rw c.in_err-replica-2.was at c.join-next.ensures.second.err known text
    c.args.block.behind
    before)

pub returns-in-Ok-next-clause-ok : goal.returns-in-Ok-next-clause-ok
returns-in-Ok-next-clause-ok g c = λ known text before. rw c.in_ok-replica-2.was
    at c.join-next.ensures.second.ok known text c.args.block.behind before
