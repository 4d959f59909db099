use Rattle.gf_names.proofs.TellingLemmas.{lasts_more, lasts_all}
use Rattle.gf_names.proofs.names.add_lasts.Goals as goal

pub loop-other-preserved : goal.loop-other-preserved
loop-other-preserved c =
    lasts_more c.args.history.now.ops c.args.ids.now c.args.others.now c.loop-other.other-index
    c.args.found.now.items c.loop-other.found.items c.add_last.new.found.items _
    c.loop-other-test.true c.loop-other.invariant c.in_ok-add_last.ensures

pub returns : goal.returns
returns c = lasts_all c.args.history.now.ops c.args.ids.now c.args.others.now
    c.loop-other.other-index c.args.found.now.items c.loop-other.found.items c.loop-other-test.false
    c.loop-other.invariant
