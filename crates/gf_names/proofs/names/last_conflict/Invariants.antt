use Rattle.std.proofs.Common.{take}
use Rattle.gf_names.specs.LastConflict.{TellsLast}
use Rattle.gf_names.proofs.names.last_conflict.Given as goal

abbrev pub invariant-loop-id : goal.invariant-loop-id
invariant-loop-id l = TellsLast l.history.ops (take l.id-index l.ids) l.other l.last
