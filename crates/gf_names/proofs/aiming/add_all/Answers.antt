use Rattle.gf_names.proofs.AimingLemmas.{brought_all, brought_more}
use Rattle.gf_names.proofs.aiming.add_all.Goals as goal

pub loop-id-preserved : goal.loop-id-preserved
loop-id-preserved c =
    brought_more c.args.history.now.ops c.args.ids.now c.loop-id.id-index c.args.found.now.items
    c.loop-id.found.items c.add_one.new.found.items _
    c.loop-id-test.true c.loop-id.invariant c.in_ok-add_one.ensures

pub returns : goal.returns
returns c = brought_all c.args.history.now.ops c.args.ids.now c.loop-id.id-index
    c.args.found.now.items c.loop-id.found.items c.loop-id-test.false c.loop-id.invariant
