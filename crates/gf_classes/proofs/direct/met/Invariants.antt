use Rattle.std.proofs.Common.{take}
use Rattle.gf_classes.proofs.KindLemmas.{HasFirsts}
use Rattle.gf_classes.proofs.direct.met.Given as goal

abbrev pub invariant-loop-run : goal.invariant-loop-run
invariant-loop-run l = HasFirsts l.kinds (take l.run-index l.run-items) l.runs.items
