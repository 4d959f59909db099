use Rattle.std.proofs.Common.{◌≡◌, false, take}
use Rattle.std.specs.List.{list_any}
use Rattle.gf_maximal.specs.Runs.{is_inside, until}
use Rattle.gf_maximal.proofs.numbers.any_below.Given as goal

abbrev pub invariant-loop-run : goal.invariant-loop-run
invariant-loop-run l = list_any (λ r. list_any (is_inside (until l.end r)) l.numbers)
    (take l.run-index l.runs) ≡ false
