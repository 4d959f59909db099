use Rattle.std.proofs.Common.{List, sym, subst}
use Rattle.gf_ops.specs.declared.op.ObjectId.{ObjectId}
use Rattle.gf_ops.specs.declared.op.OpId.{OpId}
use Rattle.gf_keep.specs.KeepSteps.{AreIdsOn}
use Rattle.gf_keep.proofs.ShowingLemmas.{item_in, shows_more}
use Rattle.gf_keep.proofs.keeping_changes.changes_of.Goals as goal

pub aim_to_keep-requires : goal.aim_to_keep-requires
aim_to_keep-requires c =
    let on = c.requires c.group-item.result (item_in c.args.groups.now c.loop-group.group-index
    c.group-item.result c.loop-group-test.true c.group-item.is) in
    subst (λ (ids : List OpId). AreIdsOn c.args.history.now.ops c.group-item.result.object ids)
    (sym c.deref.ensures.value)
    (subst (λ (o : ObjectId). AreIdsOn c.args.history.now.ops o c.in_ok-others.others.items)
    (sym on) c.in_ok-others.ensures)

pub loop-group-preserved : goal.loop-group-preserved
loop-group-preserved c =
    let on = c.requires c.group-item.result (item_in c.args.groups.now c.loop-group.group-index
    c.group-item.result c.loop-group-test.true c.group-item.is) in
    shows_more c.args.history.now.ops c.args.object c.args.groups.now c.loop-group.group-index
    c.group-item.result c.loop-group-test.true c.group-item.is on c.in_ok-aim.aim
    c.in_ok-aim.ensures
    c.loop-group.changes.items c.push-in-loop-group.new.self.items c.set_shown-in-loop-group.result
    c.set_shown-in-loop-group.ensures c.loop-group.invariant c.in_ok-push-2.ensures.items
