use Rattle.gf_replay.proofs.TakingLemmas.{offered, op_refused, op_taken}
use Rattle.gf_replay.proofs.taking.take_op.Goals as goal

pub returns-in-Ok-clause-ok : goal.returns-in-Ok-clause-ok
returns-in-Ok-clause-ok c =
    let r = c.receive.ensures in
    op_taken c.args.op c.args.replica.now c.receive.new.self _ c.step_all.result
    (offered _ _ _ _ _ r.already r.held r.same r.kept c.in-Ok.is) c.step_all.ensures.ok

pub returns-in-Ok-clause-err : goal.returns-in-Ok-clause-err
returns-in-Ok-clause-err c =
    let r = c.receive.ensures in
    op_refused c.args.number c.args.op c.args.replica.now c.receive.new.self c.step_all.result
    (offered _ _ _ _ _ r.already r.held r.same r.kept c.in-Ok.is) c.step_all.ensures.err
