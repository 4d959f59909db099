use Rattle.std.proofs.Common.{◌∙◌, sym}
use Rattle.gf_fig_named.proofs.LackedLemmas.{lacked_when, same_object}
use Rattle.gf_fig_named.proofs.naming.push_lacked.Goals as goal

pub returns : goal.returns
returns c =
    lacked_when c.args.key.now c.args.other.now c.args.out.now.items c.push_lacking.new.out.items
    (same_object c.args.other.now.object c.args.key.now.object (sym c.ne.ensures ∙ c.if-ne.false))
    c.push_lacking.result
    (rw (c.as_slice.ensures, c.as_slice-2.ensures) at c.push_lacking.ensures)
