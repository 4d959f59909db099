use Rattle.gf_take_run.specs.LeavingSteps.{AreNamesBelow}
use Rattle.gf_take_run.proofs.reading.places_of.Given as goal

abbrev pub invariant-loop-index : goal.invariant-loop-index
invariant-loop-index l = AreNamesBelow l.names l.index l.places.entries
