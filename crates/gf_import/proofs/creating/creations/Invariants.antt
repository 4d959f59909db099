use Rattle.gf_import.proofs.CreatingLemmas.{AreCreated}
use Rattle.gf_import.proofs.creating.creations.Given as goal

abbrev pub invariant-loop-figure : goal.invariant-loop-figure
invariant-loop-figure l = AreCreated l.drawing.table l.figures l.figure-index l.changes.items
