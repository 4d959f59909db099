use Rattle.std.proofs.Common.{List, ℕ}
use Rattle.gf_ops.specs.declared.op.ObjectId.{ObjectId}
use Rattle.gf_ops.specs.ValidHistory.{IsValid}
use Rattle.gf_classes.specs.Setters.{AreSetters, fingerprints}
use Rattle.gf_classes.specs.SameValues.{IsIndex}
use Rattle.gf_classes.specs.Kinds.{AreKinds}
use Rattle.gf_classes.proofs.kinds.kinds_of.Given as goal

abbrev pub invariant-loop-first : goal.invariant-loop-first
invariant-loop-first l = (us : List ℕ) (o : ObjectId) → IsValid l.ops
    → AreSetters l.ops us o l.setters → IsIndex (fingerprints l.setters) l.index
    → AreKinds l.ops l.setters l.first l.kinds.items l.classes.items
