use Rattle.std.proofs.Common.{◌∙◌, sym}
use Rattle.gf_take.proofs.ApartLemmas.{apart_tested, tested_apart}
use Rattle.gf_take.proofs.swapping.lie_apart.Goals as goal

pub returns : goal.returns
returns c =
    let a = c.args.a.now in
    let b = c.args.b.now in
    let m = c.bounds.result in
    let n = c.bounds-2.result in (
      λ t. apart_tested a b m n c.bounds.ensures c.bounds-2.ensures (sym c.are_apart.ensures ∙ t),
      λ w. c.are_apart.ensures ∙ tested_apart a b m n c.bounds.ensures c.bounds-2.ensures w,
    )
