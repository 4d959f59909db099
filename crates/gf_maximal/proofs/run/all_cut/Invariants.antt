use Rattle.std.proofs.Common.{◌≡◌, take, drop}
use Rattle.gf_maximal.specs.Runs.{all_cut, Serves}
use Rattle.gf_maximal.proofs.run.all_cut.Given as goal

abbrev pub invariant-loop-run : goal.invariant-loop-run
invariant-loop-run l = (l.pieces.items ≡ all_cut l.others (take l.run-index l.runs)) × Serves l.rest
    l.others (drop l.run-index l.runs)
