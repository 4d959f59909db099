use Rattle.std.proofs.Common.{take}
use Rattle.gf_classes.specs.Own.{AreOwn}
use Rattle.gf_classes.proofs.own.own_of.Given as goal

abbrev pub invariant-loop-id : goal.invariant-loop-id
invariant-loop-id l = AreOwn l.history.ops l.positions l.direct l.fn.class (take l.id-index l.ids) l.own
