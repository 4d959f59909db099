use Rattle.std.proofs.Common.{◌<◌, [], length, refl, arith}
use Rattle.std.specs.Prelude.{slice_index_or}
use Rattle.std.proofs.lemmas.List.{get_or_default}
use Rattle.gf_classes.proofs.ClassRowLemmas.{joined_start, joined_more, joined_all}
use Rattle.gf_classes.proofs.class_rows.join_rows.Goals as goal

pub loop-row-init : goal.loop-row-init
loop-row-init c = joined_start c.args.rows.now c.args.owns.now

pub loop-row-preserved : goal.loop-row-preserved
loop-row-preserved c =
    let old = c.loop-row.rows in
    let n = c.loop-row.row-index in
    let item = slice_index_or old n c.row-item.result in
    let t = c.loop-row-test.true in
    let e = c.loop-row.invariant.count in
    let within : n < length old = omega arith in
    joined_more c.args.rows.now c.args.owns.now old n (length c.args.rows.now) item
    c.add_joints.new.row within refl (get_or_default old n c.row-item.result [] within)
    c.in_ok-add_joints.ensures c.loop-row.invariant

pub returns : goal.returns
returns c =
    joined_all c.args.rows.now c.args.owns.now c.loop-row.rows c.loop-row.row-index
    c.loop-row-test.false c.loop-row.invariant
