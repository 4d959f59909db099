use Rattle.std.proofs.Common.{◌≡◌, []}
use Rattle.std.specs.Prelude.{filter, slice_index_or}
use Rattle.std.specs.List.{range_with_len}
use Rattle.gf_maximal.specs.Classes.{has_some}
use Rattle.gf_maximal.proofs.classes.used_of.Given as goal

abbrev pub invariant-loop-number : goal.invariant-loop-number
invariant-loop-number l = l.found ≡ filter (λ k. has_some (slice_index_or l.classes k []))
    (range_with_len 0 l.number)
