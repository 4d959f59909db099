use Rattle.std.proofs.Common.{length}
use Rattle.std.specs.Prelude.{⊤}
use Rattle.gf_fig_faults.proofs.fields.field_at.Given as goal

abbrev pub invariant-loop-line : goal.invariant-loop-line
invariant-loop-line l = ⊤

abbrev pub decreases-loop-line : goal.decreases-loop-line
decreases-loop-line l = length l.left
