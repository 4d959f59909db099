use Rattle.std.proofs.Common.{take}
use Rattle.gf_take_run.specs.TakenBehind.{AreWritten}
use Rattle.gf_take_run.proofs.taking.lines_of.Given as goal

abbrev pub invariant-loop-op : goal.invariant-loop-op
invariant-loop-op l = AreWritten (take l.op-index l.ops) l.text.items
