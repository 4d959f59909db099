use Rattle.std.proofs.Common.{subst, sym}
use Rattle.std.proofs.lemmas.Result.{err_from_is_err_and}
use Rattle.gf_run.specs.RefusedRuns.{IsBetween}
use Rattle.gf_studio.specs.RefusedRuns.{RefusesLines}
use Rattle.gf_studio.proofs.DrawnLemmas.{history_refused}
use Rattle.gf_studio.proofs.drawings.draw.Goals as goal

pub returns-clause-ok : goal.returns-clause-ok
returns-clause-ok g c =
    record {
      history = c.in_ok-replica.replica.ops;
      denoted = c.in_ok-replica.ensures.ok;
      such = c.in_ok-drawing.ensures.ok;
    }

pub returns-clause-waiting : goal.returns-clause-waiting
returns-clause-waiting g c =
    let replica = c.in_ok-replica.replica in
    record {
      history = replica.ops;
      waiting = replica.held;
      denoted = c.in_ok-replica.ensures.held;
      count = c.held-waiting.ensures.held;
    }

pub returns-in_err-drawing-clause-refused : goal.returns-in_err-drawing-clause-refused
returns-in_err-drawing-clause-refused g c =
    let p = err_from_is_err_and c.from_residual-in_err-drawing.result
    c.from_residual-in_err-drawing.ensures.1 in
    let bytes = c.args.bytes.items in
    rw p.1 (subst (RefusesLines bytes) (sym p.2)
    (history_refused bytes c.in_ok-replica.replica.ops c.in_ok-replica.ensures.ok _
    c.in_err-drawing.ensures.err).0)

pub returns-in_err-drawing-clause-between : goal.returns-in_err-drawing-clause-between
returns-in_err-drawing-clause-between g c =
    let p = err_from_is_err_and c.from_residual-in_err-drawing.result
    c.from_residual-in_err-drawing.ensures.1 in
    let bytes = c.args.bytes.items in
    rw p.1 (subst IsBetween (sym p.2)
    (history_refused bytes c.in_ok-replica.replica.ops c.in_ok-replica.ensures.ok _
    c.in_err-drawing.ensures.err).1)
