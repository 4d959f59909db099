use Rattle.std.proofs.Common.{subst, sym}
use Rattle.std.proofs.lemmas.Result.{err_from_is_err_and}
use Rattle.gf_run.specs.RefusedRuns.{IsBetween}
use Rattle.gf_studio.specs.RefusedRuns.{RefusesLines}
use Rattle.gf_studio.proofs.DrawnLemmas.{history_refused}
use Rattle.gf_studio.proofs.naming.name.Goals as goal

pub returns-clause-ok : goal.returns-clause-ok
returns-clause-ok g c =
    record {
      history = c.in_ok-replica.replica.ops;
      denoted = c.in_ok-replica.ensures.ok;
      such = c.in_ok-named.ensures.ok;
    }

pub returns-clause-waiting : goal.returns-clause-waiting
returns-clause-waiting g c =
    let replica = c.in_ok-replica.replica in
    record {
      history = replica.ops;
      waiting = replica.held;
      denoted = c.in_ok-replica.ensures.held;
      count = c.in_ok-named.ensures.waiting;
    }

pub returns-clause-thin : goal.returns-clause-thin
returns-clause-thin g c =
    record {
      history = c.in_ok-replica.replica.ops;
      denoted = c.in_ok-replica.ensures.ok;
      such = c.in_ok-named.ensures.thin;
    }

pub returns-in_err-named-clause-refused : goal.returns-in_err-named-clause-refused
returns-in_err-named-clause-refused g c =
    let p = err_from_is_err_and c.from_residual-in_err-named.result
    c.from_residual-in_err-named.ensures.1 in
    let bytes = c.args.bytes.items in
    rw p.1 (subst (RefusesLines bytes) (sym p.2)
    (history_refused bytes c.in_ok-replica.replica.ops c.in_ok-replica.ensures.ok _
    c.in_err-named.ensures.err).0)

pub returns-in_err-named-clause-between : goal.returns-in_err-named-clause-between
returns-in_err-named-clause-between g c =
    let p = err_from_is_err_and c.from_residual-in_err-named.result
    c.from_residual-in_err-named.ensures.1 in
    let bytes = c.args.bytes.items in
    rw p.1 (subst IsBetween (sym p.2)
    (history_refused bytes c.in_ok-replica.replica.ops c.in_ok-replica.ensures.ok _
    c.in_err-named.ensures.err).1)
