use Rattle.std.proofs.Common.{◌≡◌, take}
use Rattle.gf_maximal.specs.Runs.{members}
use Rattle.gf_maximal.proofs.run.numbers_in.Given as goal

abbrev pub invariant-loop-run : goal.invariant-loop-run
invariant-loop-run l = l.numbers.items ≡ members (take l.run-index l.runs)
