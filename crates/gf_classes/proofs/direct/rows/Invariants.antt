use Rattle.gf_classes.specs.Kinds.{AreRowsOf}
use Rattle.gf_classes.proofs.direct.rows.Given as goal

abbrev pub invariant-loop-kind : goal.invariant-loop-kind
invariant-loop-kind l = AreRowsOf l.kinds l.kind-index l.rows.items
