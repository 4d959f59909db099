use Rattle.std.proofs.Common.{rules, sym, ◌∙◌, FitsSigned, w32}
use Rattle.std.proofs.lemmas.Bool.{and_parts}
use Rattle.std.proofs.lemmas.Int.{to_z-of_z}
use Rattle.gf_shape.proofs.RowShapes.{rect_no_row, rect_row}
use Rattle.gf_shape.proofs.rect.RectShape.row_into.Goals as goal

pub returns-in_ok-set_side : goal.returns-in_ok-set_side
returns-in_ok-set_side c =
    let f = c.ranges.y in
    let g : FitsSigned w32 c.self.inside.low.x = search rules in
    let h : FitsSigned w32 c.self.inside.low.y = search rules in
    let along = simp to_z-of_z at c.is_along.ensures in
    let set = simp to_z-of_z at c.in_ok-set_side.ensures in
    let both = and_parts _ _ (sym along ∙ c.if-is_along.true) in
    rw (← c.self.view_is, set)
    (rect_row (record {
      low = c.self.inside.low;
      width = c.self.inside.width;
      height = c.self.inside.height;
    }) c.args.y both.0 both.1)

pub set_side-requires : goal.set_side-requires
set_side-requires c = let g : FitsSigned w32 c.self.inside.low.x = search rules in
    simp to_z-of_z (and_parts _ _ c.self.invariant).0

pub returns-else-is_along : goal.returns-else-is_along
returns-else-is_along c =
    let f = c.ranges.y in
    let h : FitsSigned w32 c.self.inside.low.y = search rules in
    let along = simp to_z-of_z at c.is_along.ensures in
    rw (← c.self.view_is, c.clear.ensures)
    (rect_no_row (record {
      low = c.self.inside.low;
      width = c.self.inside.width;
      height = c.self.inside.height;
    }) c.args.y (sym along ∙ c.if-is_along.false))
