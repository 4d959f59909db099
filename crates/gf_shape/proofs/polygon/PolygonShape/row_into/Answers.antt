use Rattle.std.proofs.lemmas.Int.{to_z-of_z}
use Rattle.gf_shape.proofs.RowShapes.{IsRow-closed}
use Rattle.gf_shape.proofs.polygon.PolygonShape.row_into.Goals as goal

pub returns : goal.returns
returns c =
    let f = c.ranges.y in
    let row = simp to_z-of_z at c.in_ok-row_into.ensures in
    rw (← c.self.view_is) (IsRow-closed c.self.inside.ring c.args.y c.row_into.new.row
    c.self.invariant row)
