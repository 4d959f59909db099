use Rattle.std.proofs.Common.{◌≡◌, take}
use Rattle.gf_edit.specs.MadeOperations.{made_of}
use Rattle.gf_take_run.proofs.taking.made_of.Given as goal

abbrev pub invariant-loop-op : goal.invariant-loop-op
invariant-loop-op l = l.made ≡ made_of (take l.op-index l.ops)
