use Rattle.gf_classes.proofs.ClassRowLemmas.{met_none}
use Rattle.gf_classes.proofs.class_rows.near_of.Goals as goal

pub returns : goal.returns
returns c =
    met_none 0 c.args.rows.now c.args.own.now c.new-near.result c.add_met.new.found
    c.new-near.ensures c.in_ok-add_met.ensures
