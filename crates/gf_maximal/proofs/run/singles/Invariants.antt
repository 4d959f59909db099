use Rattle.std.proofs.Common.{◌≡◌, map, take}
use Rattle.gf_maximal.specs.Runs.{single}
use Rattle.gf_maximal.proofs.run.singles.Given as goal

abbrev pub invariant-loop-number : goal.invariant-loop-number
invariant-loop-number l = l.runs.items ≡ map single (take l.number-index l.numbers)
