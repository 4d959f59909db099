use Rattle.std.proofs.Common.{[], subst, sym}
use Rattle.std.proofs.lemmas.Result.{err_from_is_err_and}
use Rattle.gf_replay.specs.Behind.{HasDelivered}
use Rattle.gf_replay.proofs.ReadingLemmas.{Denotes-read, DenotesWaiting-read, none_delivered}
use Rattle.gf_replay.proofs.reading.read_replica.Goals as goal

pub returns-in_err-replica-clause-err : goal.returns-in_err-replica-clause-err
returns-in_err-replica-clause-err g c =
    let p = err_from_is_err_and c.from_residual.result c.from_residual.ensures.1 in
    rw (p.1, p.2) (c.in_err-replica.ensures.err []
    (subst (HasDelivered []) (sym c.new.ensures) none_delivered))

pub returns-clause-ok : goal.returns-clause-ok
returns-clause-ok g c =
    Denotes-read c.args.text.items c.in_ok-replica.replica
    (c.in_ok-replica.ensures.ok [] (subst (HasDelivered []) (sym c.new.ensures) none_delivered))

pub returns-clause-held : goal.returns-clause-held
returns-clause-held g c =
    DenotesWaiting-read c.args.text.items c.in_ok-replica.replica
    (c.in_ok-replica.ensures.ok [] (subst (HasDelivered []) (sym c.new.ensures) none_delivered))
    c.recall_state.ensures.held
