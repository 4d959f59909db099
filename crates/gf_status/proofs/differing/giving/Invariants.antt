use Rattle.std.proofs.Common.{take}
use Rattle.gf_status.proofs.SetterLemmas.{AreLasts}
use Rattle.gf_status.proofs.differing.giving.Given as goal

abbrev pub invariant-loop-group : goal.invariant-loop-group
invariant-loop-group l = AreLasts (λ a. a.now) l.history.ops l.attribute
    (take l.group-index l.groups) l.found.items
