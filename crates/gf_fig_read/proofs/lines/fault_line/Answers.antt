use Rattle.gf_fig_read.proofs.LineLemmas.{object_is_reported}
use Rattle.gf_fig_read.proofs.lines.fault_line.Goals as goal

pub returns-in-None-clause-reported : goal.returns-in-None-clause-reported
returns-in-None-clause-reported c =
    object_is_reported c.args.text.now c.args.error c.object_line.result c.in-None.ensures
    c.object_line.ensures
