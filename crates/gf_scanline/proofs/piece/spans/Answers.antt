use Rattle.std.proofs.lemmas.Int.{to_z-of_z}
use Rattle.gf_scanline.proofs.piece.spans.Goals as goal

pub returns-in-Some : goal.returns-in-Some
returns-in-Some g c =
    let f = c.ranges.y in
    let told = rw c.in-Some.is at c.requires in
    rw c.spans.ensures ((simp to_z-of_z at c.in_ok-row_into.ensures)
    (g.S.Shape.holds c.args.piece.now.layer.now.shape.now) told)
