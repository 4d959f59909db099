use Rattle.gf_maximal.specs.Cutting.{IsGrownTo}
use Rattle.gf_maximal.proofs.listing.count_sets.Given as goal

abbrev pub invariant-loop-place : goal.invariant-loop-place
invariant-loop-place l = IsGrownTo l.rows l.numbers l.place l.met l.sets.items
