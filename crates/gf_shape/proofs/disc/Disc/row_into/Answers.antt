use Rattle.std.proofs.Common.{arith, rules, ◌<◌, FitsSigned, w32}
use Rattle.std.proofs.lemmas.Int.{to_z-of_z}
use Rattle.gf_shape.proofs.RowShapes.{round_row, round_no_row}
use Rattle.gf_shape.proofs.disc.Disc.row_into.Goals as goal

pub returns-in_ok-set : goal.returns-in_ok-set
returns-in_ok-set c =
    let f = c.ranges.y in
    let g : FitsSigned w32 c.self.inside.centre.x = search rules in
    let h : FitsSigned w32 c.self.inside.centre.y = search rules in
    let k : FitsSigned w32 c.less.result = search rules in
    let m : FitsSigned w32 c.more.result = search rules in
    let past = simp to_z-of_z at c.apart-past.ensures.value in
    let set = simp to_z-of_z at c.in_ok-set.ensures in
    let left = simp to_z-of_z at c.less.ensures in
    let right = simp to_z-of_z at c.more.ensures in
    rw (← c.self.view_is, set, left, right)
    (round_row (record { centre = c.self.inside.centre; radius = c.self.inside.radius }) c.args.y
    c.half_width-half.result (rw past at c.half_width-half.ensures.low)
    (rw past at c.half_width-half.ensures.high))

pub returns-else-past-from : goal.returns-else-past-from
returns-else-past-from c =
    let f = c.ranges.y in
    let h : FitsSigned w32 c.self.inside.centre.y = search rules in
    let past = simp to_z-of_z at c.apart-past.ensures.value in
    let l : c.self.inside.radius < c.apart-past.result = omega arith in
    rw (← c.self.view_is, c.clear.ensures)
    (round_no_row (record { centre = c.self.inside.centre; radius = c.self.inside.radius }) c.args.y
    (rw past at l))
