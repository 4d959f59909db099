use Rattle.gf_fig_read.specs.FaultLines.{IsFaultLine}
use Rattle.gf_import.proofs.RefusalLemmas.{at_some, told_fails}
use Rattle.gf_import.proofs.importing.fig_refusal.Goals as goal

pub returns-in-Ok-Some : goal.returns-in-Ok-Some
returns-in-Ok-Some c =
    let fig = c.args.fig.now in
    let found = c.in-Ok-Some.field-0 in
    let line = c.in-Ok-Some.line in
    let told = at_some _ (IsFaultLine fig c.args.error) found line c.in-Ok-Some.field-0-is
    c.in-Ok-Some.ensures.line in
    (told_fails fig c.args.error line c.requires told, told)
