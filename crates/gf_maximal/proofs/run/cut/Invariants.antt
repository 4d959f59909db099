use Rattle.std.proofs.Common.{◌≡◌, ◌++◌, drop}
use Rattle.gf_maximal.specs.Runs.{cut}
use Rattle.gf_maximal.proofs.run.cut.Given as goal

abbrev pub invariant-loop-other : goal.invariant-loop-other
invariant-loop-other l = l.pieces.items ++ cut l.left
    (drop l.other-index l.others) ≡ l.initial.pieces.items ++ cut l.fn.run l.others
