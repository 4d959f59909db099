use Rattle.gf_names.proofs.AimingLemmas.{brought_none, brought_some}
use Rattle.gf_names.proofs.aiming.add_one.Goals as goal

pub returns-in_ok-extend_from_slice : goal.returns-in_ok-extend_from_slice
returns-in_ok-extend_from_slice c =
    let f = c.in-Some.ensures.found in
    brought_some c.args.history.now.ops c.args.id c.recall_valid.ensures c.in-Some.op.now f.0 f.1
    c.args.found.now.items c.push.new.self.items c.extend_from_slice.new.self.items c.aim.result.now
    c.in_ok-push.ensures.items c.aim.ensures c.in_ok-extend_from_slice.ensures.items

pub returns-in_default : goal.returns-in_default
returns-in_default c = brought_none c.args.history.now.ops c.args.id c.args.found.now.items
    c.push.new.self.items c.in_default.ensures.none c.in_ok-push.ensures.items
