use Rattle.std.specs.Io.KnownBytes.{prepend_known}
use Rattle.std.proofs.lemmas.Result.{err_from_is_err_and}
use Rattle.gf_serve.proofs.TurnLemmas.{left_unwritten, turn_answered}
use Rattle.gf_serve.proofs.dialogue.Dialogue.turn.Goals as goal

pub returns-in_err-write-clause-refused : goal.returns-in_err-write-clause-refused
returns-in_err-write-clause-refused g c =
    let p = err_from_is_err_and c.from_residual-in_err-write.result
    c.from_residual-in_err-write.ensures.1 in
    rw (← c.self.view_is, p.1, p.2) (left_unwritten
    (prepend_known c.self.inside.ahead.items (g.R.Source.left c.args.source.now))
    (prepend_known c.read_raw_request.new.held.items (g.R.Source.left c.read_raw_request.new.source))
    (g.W.Sink.taken c.args.sink.now) (g.W.Sink.taken c.write-2.new.sink) c.in-Ok-Some.raw
    c.in_ok-text.text.items c.deref.result.now c.self.inside.service c.answer.new.service _
    (rw c.in-Ok-Some.field-0-is at c.in-Ok-Some.ensures.raw) c.in_ok-text.ensures.answers
    c.deref.ensures.value c.in_err-write.ensures.err c.in_err-write.ensures.refused)

pub returns-clause-turn : goal.returns-clause-turn
returns-clause-turn g c =
    rw (← c.self.view_is) (λ known d. turn_answered known
    (prepend_known c.self.inside.ahead.items (g.R.Source.left c.args.source.now))
    (prepend_known c.read_raw_request.new.held.items (g.R.Source.left c.read_raw_request.new.source))
    (g.W.Sink.taken c.args.sink.now) (g.W.Sink.taken c.write-2.new.sink) c.in-Ok-Some.raw
    c.in_ok-text.text.items c.deref.result.now c.answer.new.service
    (rw c.in-Ok-Some.field-0-is at c.in-Ok-Some.ensures.raw)
    (c.in_ok-text.ensures.answers known d) c.deref.ensures.value c.in_ok-write.ensures.ok)
