use Rattle.gf_command.proofs.TakenLemmas.{take_answers}
use Rattle.gf_command.proofs.answering.answer.Goals as goal

pub returns-in-Take-clause-done : goal.returns-in-Take-clause-done
returns-in-Take-clause-done g c =
    rw c.in-Take.is (take_answers (g.R.Source.left c.args.source.now)
    (g.W.Sink.taken c.args.output.now)
    (g.W.Sink.taken c.take_run.new.sink) c.in-Take.editor c.in-Take.after c.in-Take.named
    c.in-Take.workers c.in_ok-taken-in-Take.taken
    c.in_ok-taken-in-Take.ensures.takes)
