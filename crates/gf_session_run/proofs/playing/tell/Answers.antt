use Rattle.std.proofs.Common.{ap, ◌++◌, ◌∙◌}
use Rattle.gf_session_run.specs.Reports.{report_text}
use Rattle.gf_session_run.proofs.OutcomeLemmas.{told_history}
use Rattle.gf_session_run.proofs.playing.tell.Goals as goal

pub returns-in-Ok-told-clause-ok : goal.returns-in-Ok-told-clause-ok
returns-in-Ok-told-clause-ok c =
    let fig = c.in-Ok.fig.items in
    let dones = c.args.dones.now in
    let is = c.in-Ok-told.ensures ∙ ap (λ t. report_text dones ++ t) c.as_slice.ensures.value in
    told_history c.args.site.now.ops dones c.in-Ok-told.text.items fig c.in_ok-drawing.drawing
    (rw c.replica.ensures at c.in_ok-drawing.ensures.ok) c.in-Ok.ensures.text c.in-Ok.ensures.reads
    is
