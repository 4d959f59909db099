use Rattle.std.proofs.Common.{take}
use Rattle.gf_classes.specs.ClassRows.{AddsMet}
use Rattle.gf_classes.proofs.class_rows.add_met.Given as goal

abbrev pub invariant-loop-index : goal.invariant-loop-index
invariant-loop-index l =
    AddsMet l.first (take l.index l.sets) l.set l.initial.found l.found
