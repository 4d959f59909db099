use Rattle.std.proofs.Common.{◌≡◌, length}
use Rattle.gf_names.specs.Lacking.{from_id}
use Rattle.gf_names.proofs.lacking.from_id.Given as goal

abbrev pub invariant-loop-rest : goal.invariant-loop-rest
invariant-loop-rest l = from_id l.id l.rest ≡ from_id l.id l.ids

abbrev pub decreases-loop-rest : goal.decreases-loop-rest
decreases-loop-rest l = length l.rest
