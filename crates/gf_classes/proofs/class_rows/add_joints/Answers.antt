use Rattle.std.proofs.Common.{inl, inr, ◌∙◌}
use Rattle.gf_classes.proofs.ClassRowLemmas.{met_none, met_united}
use Rattle.gf_classes.proofs.class_rows.add_joints.Goals as goal
use Rattle.gf_classes.proofs.class_rows.add_joints.Goals.{then-not-is_empty+in_ok-row, else-not-is_empty}

pub returns : goal.returns
returns c =
    let old = c.args.row.now in
    let joints = c.add_met.new.found in
    let made = met_united c.args.first c.args.owns.now old joints c.if-not-is_empty.row
    (met_none c.args.first c.args.owns.now old c.new-joints.result joints c.new-joints.ensures
    c.in_ok-add_met.ensures) in
    elim c.if-not-is_empty.branch [
      | then-not-is_empty+in_ok-row w ↦ made (inl (w.row-is ∙ w.in_ok-row.ensures))
      | else-not-is_empty w ↦ made (inr (w.row-is, c.is_empty.ensures.0 w.if-not-is_empty.false))
    ]
