use Rattle.gf_classes.proofs.ClassSlotLemmas.{slots_more, slots_none}
use Rattle.gf_classes.proofs.classes.slots_of.Goals as goal

pub loop-index-init : goal.loop-index-init
loop-index-init c =
    slots_none c.args.history.now.ops c.args.positions.now c.args.direct.now c.requires.given
    c.args.joints.now c.new-slots.result.items c.requires.empty c.new-slots.ensures.items

pub loop-index-preserved : goal.loop-index-preserved
loop-index-preserved c =
    slots_more c.args.history.now.ops c.args.positions.now c.args.direct.now c.requires.given
    c.loop-index.joints c.slot_of.new.joints c.loop-index.slots.items c.push.new.self.items
    c.loop-index.index c.in_ok-slot_of.field-0 c.loop-index.invariant c.in_ok-slot_of.ensures.kept
    c.in_ok-slot_of.ensures.calm c.in_ok-slot_of.ensures.slot c.in_ok-push.ensures.items
