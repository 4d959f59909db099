use Rattle.gf_studio.proofs.DrawnLemmas.{compiled, not_compiled}
use Rattle.gf_studio.proofs.drawings.draw_replica.Goals as goal

pub returns-clause-ok : goal.returns-clause-ok
returns-clause-ok c =
    let items = c.in_ok-ranked.ranked.items.items in
    compiled c.args.replica.now.ops items c.in_ok-ranked.ensures.ranked c.compile.result
    c.compile.ensures.drawing c.compile.ensures.fits

pub returns-clause-err : goal.returns-clause-err
returns-clause-err c =
    let items = c.in_ok-ranked.ranked.items.items in
    not_compiled c.args.replica.now.ops items c.in_ok-ranked.ensures.ranked c.compile.result
    c.compile.ensures.versions.0 c.compile.ensures.colours
