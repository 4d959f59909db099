use Rattle.gf_classes.specs.Kinds.{ArePut}
use Rattle.gf_classes.proofs.direct.placed.Given as goal

abbrev pub invariant-loop-rank : goal.invariant-loop-rank
invariant-loop-rank l = ArePut l.setters l.classes l.rank l.len l.all.items
