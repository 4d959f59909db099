use Rattle.std.proofs.Common.{rules, refl, FitsSigned, w32}
use Rattle.std.proofs.lemmas.Int.{to_z-of_z}
use Rattle.gf_shape.proofs.rect.set_side.Goals as goal

pub returns : goal.returns
returns c =
    let f = c.ranges.low in
    let k : FitsSigned w32 c.end-last.result = search rules in
    let set = simp to_z-of_z at c.in_ok-set.ensures in
    let last = simp to_z-of_z at c.end-last.ensures in
    rw (set, last) refl
