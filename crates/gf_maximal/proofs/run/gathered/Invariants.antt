use Rattle.std.proofs.Common.{◌≡◌, []}
use Rattle.std.specs.List.{fold}
use Rattle.std.specs.Vec.Iter.{into_iter_items}
use Rattle.gf_maximal.specs.Runs.{pushed}
use Rattle.gf_maximal.proofs.run.gathered.Given as goal

abbrev pub invariant-loop-run : goal.invariant-loop-run
invariant-loop-run l = fold pushed l.all.items (into_iter_items l.run-iterator) ≡ fold pushed []
    (into_iter_items l.initial.run-iterator)
