use Rattle.gf_classes.specs.Setters.{AreTaken}
use Rattle.gf_classes.proofs.setters.taken.Given as goal

abbrev pub invariant-loop-index : goal.invariant-loop-index
invariant-loop-index l = AreTaken l.ops l.positions l.index l.all.items
