use Rattle.gf_keep.proofs.AimingLemmas.{aim_told}
use Rattle.gf_keep.proofs.aiming.aim_to_keep.Goals as goal

pub returns : goal.returns
returns c =
    aim_told c.args.history.now.ops c.recall_valid.ensures c.args.group.now c.args.others.now
    c.requires c.as_slice.result.now c.as_slice.ensures c.in_ok-marks.marks c.as_slice-2.result.now
    c.as_slice-2.ensures c.aim_at.result c.in_ok-marks.ensures c.aim_at.ensures
