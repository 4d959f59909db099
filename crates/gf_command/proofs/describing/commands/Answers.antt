use Rattle.gf_command.proofs.AddingLemmas.{commands_more}
use Rattle.gf_command.proofs.describing.commands.Goals as goal

pub loop-run-preserved : goal.loop-run-preserved
loop-run-preserved c =
    rw c.in_ok-push.ensures.items
    (commands_more c.loop-run.commands.items c.in_ok-command.field-0 c.args.runs.now
    c.loop-run.run-index _ c.loop-run-test.true c.loop-run.invariant c.in_ok-command.ensures)
