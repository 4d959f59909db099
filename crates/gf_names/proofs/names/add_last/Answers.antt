use Rattle.gf_names.proofs.TellingLemmas.{at_none, at_unmet, at_met}
use Rattle.gf_names.proofs.names.add_last.Goals as goal

pub returns-in_default : goal.returns-in_default
returns-in_default c = at_none c.args.history.now.ops c.recall_valid.ensures c.args.ids.now
    c.args.other c.args.found.now.items c.in_default.ensures.none

pub returns-in_default-last_conflict : goal.returns-in_default-last_conflict
returns-in_default-last_conflict c =
    let f = c.in-Some.ensures.found in
    at_unmet c.args.history.now.ops c.recall_valid.ensures c.args.ids.now c.args.other
    c.in-Some.other.now f.0 f.1 c.args.found.now.items c.in_default-last_conflict.ensures

pub returns : goal.returns
returns c =
    let f = c.in-Some.ensures.found in
    at_met c.args.history.now.ops c.recall_valid.ensures c.args.ids.now c.args.other
    c.in-Some.other.now f.0 f.1 c.args.found.now.items c.push.new.self.items
    c.in-Some-last_conflict.last
    c.requires c.in-Some-last_conflict.ensures c.in_ok-push.ensures.items
