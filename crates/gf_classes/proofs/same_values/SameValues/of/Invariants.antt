use Rattle.gf_classes.specs.SameValues.{Lists}
use Rattle.gf_classes.proofs.same_values.SameValues.of.Given as goal

abbrev pub invariant-loop-rank : goal.invariant-loop-rank
invariant-loop-rank l = Lists l.fingerprints l.rank l.ranks.entries
