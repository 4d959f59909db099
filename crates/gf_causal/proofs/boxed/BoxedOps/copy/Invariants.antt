use Rattle.std.proofs.Common.{◌≡◌, ◌++◌}
use Rattle.gf_causal.specs.Keeping.{opened}
use Rattle.gf_causal.proofs.boxed.BoxedOps.copy.Given as goal

abbrev pub invariant-loop-id : goal.invariant-loop-id
invariant-loop-id l = l.ops ++ opened l.id-iterator ≡ opened l.initial.id-iterator
