use Rattle.std.proofs.Common.{◌≡◌, [], take}
use Rattle.std.specs.Prelude.{slice_index_or}
use Rattle.std.specs.List.{flat_map}
use Rattle.gf_maximal.specs.Runs.{members}
use Rattle.gf_maximal.proofs.classes.runs_of_all.Given as goal

abbrev pub invariant-loop-number : goal.invariant-loop-number
invariant-loop-number l = members l.runs.items
    ≡ flat_map (λ k. slice_index_or l.classes k []) (take l.number-index l.numbers)
