use Rattle.std.proofs.Common.{subst}
use Rattle.gf_fig_read.specs.FaultLines.{BeginsOn}
use Rattle.gf_import.specs.ImportRun.{HasNoCreations}
use Rattle.gf_import.proofs.RefusalLemmas.{at_none, figure_has_line}
use Rattle.gf_import.proofs.importing.figure_refusal.Goals as goal

pub unreachable-requires : goal.unreachable-requires
unreachable-requires c =
    let fig = c.args.fig.now in
    let object = c.in-Figure.object in
    let none = subst (HasNoCreations fig) c.in-Figure.is c.requires in
    let there = figure_has_line fig object c.in-Figure.fault none in
    at_none _ (BeginsOn fig object) c.in-Ok-None.field-0 c.in-Ok-None.field-0-is
    c.in-Ok-None.ensures there.0 there.1
