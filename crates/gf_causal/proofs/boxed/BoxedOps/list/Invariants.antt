use Rattle.std.proofs.Common.{◌≡◌, ◌++◌}
use Rattle.std.specs.Prelude.{map}
use Rattle.std.specs.Map.{values_of}
use Rattle.gf_causal.specs.Keeping.{opened}
use Rattle.gf_causal.proofs.boxed.BoxedOps.list.Given as goal

abbrev pub invariant-loop-op : goal.invariant-loop-op
invariant-loop-op l =
    map (λ a. a.now) l.ops.items ++ values_of (opened l.op-iterator)
    ≡ values_of (opened l.initial.op-iterator)
