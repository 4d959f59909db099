use Rattle.std.proofs.Common.{◌≡◌}
use Rattle.gf_maximal.specs.Runs.{AreRuns, after}
use Rattle.gf_maximal.proofs.run.after.Given as goal

abbrev pub invariant-loop : goal.invariant-loop
invariant-loop l = AreRuns l.rest × (after l.number l.rest ≡ after l.number l.runs)
