use Rattle.std.proofs.Common.{◌≡◌, drop}
use Rattle.std.specs.List.{list_any}
use Rattle.gf_maximal.specs.Runs.{touches, Serves}
use Rattle.gf_maximal.proofs.run.any_touches.Given as goal

abbrev pub invariant-loop-run : goal.invariant-loop-run
invariant-loop-run l = (list_any (touches l.others) l.runs ≡ list_any (touches l.others)
    (drop l.run-index l.runs)) × Serves l.rest l.others (drop l.run-index l.runs)
