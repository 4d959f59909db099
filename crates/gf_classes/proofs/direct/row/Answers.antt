use Rattle.gf_classes.proofs.KindLemmas.{row_from}
use Rattle.gf_classes.proofs.direct.row.Goals as goal

pub returns : goal.returns
returns c =
    let o = c.args.kind.now.rival_ranks in
    row_from c.args.kinds.now o.ranks c.in_ok-all.all c.in_ok-row.row o.except c.in_ok-all.ensures
    (c.in_ok-row.ensures c.args.kinds.now c.requires.same)
