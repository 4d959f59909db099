use Rattle.std.proofs.Common.{◌≡◌, length}
use Rattle.gf_classes.specs.ClassRows.{AreJointRows}
use Rattle.gf_classes.proofs.class_rows.joint_rows.Given as goal

abbrev pub invariant-loop-own : goal.invariant-loop-own
invariant-loop-own l = record {
  count : length l.found.items ≡ l.own-index;
  each : AreJointRows l.rows l.owns l.found.items;
}
