use Rattle.gf_names.proofs.LackingLemmas.{all_walked}
use Rattle.gf_names.proofs.lacking.push_lacking.Goals as goal

pub returns : goal.returns
returns c =
    all_walked c.args.ids.now c.args.others.now c.args.out.now.items c.loop-id.out.items
    c.loop-id.rest.now c.loop-id.id-index c.requires.ids c.requires.others c.loop-id-test.false
    c.loop-id.invariant
