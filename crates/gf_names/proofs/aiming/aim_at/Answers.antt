use Rattle.gf_names.proofs.AimingLemmas.{brought_rising}
use Rattle.gf_names.proofs.aiming.aim_at.Goals as goal

pub returns : goal.returns
returns c =
    brought_rising c.args.history.now.ops c.args.ids.now c.new-found.result.items
    c.add_all.new.found.items c.deref.result.now c.new-found.ensures.items c.deref.ensures.value
    c.rising.result c.in_ok-add_all.ensures c.rising.ensures
