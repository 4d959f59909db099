use Rattle.gf_fig_named.proofs.LackedLemmas.{both_lacking}
use Rattle.gf_fig_named.proofs.naming.others_of.Goals as goal

pub returns : goal.returns
returns c =
    both_lacking c.args.ids.now c.args.lacked.now c.args.own.now c.push_lacking.new.out.items
    c.push_lacking-2.new.out.items
    (rw c.new-others.ensures.items at c.in_ok-push_lacking.ensures)
    c.in_ok-push_lacking-2.ensures
