use Rattle.std.specs.Io.KnownBytes.{prepend_known}
use Rattle.std.proofs.lemmas.Result.{err_from_is_err_and}
use Rattle.gf_serve.proofs.TurnLemmas.{raw_taken, unread_body_left}
use Rattle.gf_serve.proofs.dialogue.read_raw_request.Goals as goal

pub returns-clause-raw : goal.returns-clause-raw
returns-clause-raw g c =
    raw_taken (prepend_known c.args.held.now.items (g.R.Source.left c.args.source.now))
    (prepend_known c.read_line.new.held.items (g.R.Source.left c.read_line.new.source))
    (prepend_known c.read_body.new.held.items (g.R.Source.left c.read_body.new.source))
    c.in-Some.line.items c.deref.result.now c.in_ok-asks.count
    (record { asks = c.in_ok-asks.asks; body = c.in_ok-body.body })
    (rw c.in-Some.is at c.in_ok-line.ensures.line) c.deref.ensures.value
    c.in_ok-asks.ensures.told c.in_ok-body.ensures.count
    (rw c.in-Some.is at c.in_ok-line.ensures.takes) c.in_ok-body.ensures.takes

pub returns-in_err-body-clause-refused : goal.returns-in_err-body-clause-refused
returns-in_err-body-clause-refused g c =
    let p = err_from_is_err_and c.from_residual-in_err-body.result
    c.from_residual-in_err-body.ensures.1 in
    rw (p.1, p.2) (unread_body_left
    (prepend_known c.args.held.now.items (g.R.Source.left c.args.source.now))
    (prepend_known c.read_line.new.held.items (g.R.Source.left c.read_line.new.source))
    c.in-Some.line.items c.deref.result.now c.in_ok-asks.asks c.in_ok-asks.count _
    (rw c.in-Some.is at c.in_ok-line.ensures.line) c.deref.ensures.value
    c.in_ok-asks.ensures.told (rw c.in-Some.is at c.in_ok-line.ensures.takes)
    c.in_err-body.ensures.refused)
