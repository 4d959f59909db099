use Rattle.gf_classes.specs.ClassRows.{AreJoinedRows}
use Rattle.gf_classes.proofs.class_rows.join_rows.Given as goal

abbrev pub invariant-loop-row : goal.invariant-loop-row
invariant-loop-row l = AreJoinedRows l.initial.rows l.owns l.rows l.row-index
