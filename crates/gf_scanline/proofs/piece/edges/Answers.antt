use Rattle.std.proofs.lemmas.Int.{to_z-of_z}
use Rattle.gf_shape.specs.FigureMeaning.{chain_holds}
use Rattle.gf_scanline.proofs.PieceLemmas.{tells_same}
use Rattle.gf_scanline.proofs.piece.edges.Goals as goal

pub returns-in_ok-edges-in-Some : goal.returns-in_ok-edges-in-Some
returns-in_ok-edges-in-Some g c = λ y from upto.
    let low = c.ranges.low in
    let high = c.ranges.high in
    let alike = rw c.in-Some.is at c.requires.chain in
    let tells = (simp to_z-of_z at c.in_ok-edges-in-Some.ensures) y from upto in
    tells_same (chain_holds c.in-Some.chain.points) (g.S.Shape.holds c.args.layer.now.shape.now) y
    c.in_ok-edges-in-Some.edges alike tells
