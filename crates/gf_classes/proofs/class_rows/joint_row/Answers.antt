use Rattle.gf_classes.proofs.class_rows.joint_row.Goals as goal

pub returns : goal.returns
returns c = record {
  near = c.in_ok-row.row;
  is_near = c.in_ok-row.ensures;
  is_row = c.in_ok-add_joints.ensures;
}
