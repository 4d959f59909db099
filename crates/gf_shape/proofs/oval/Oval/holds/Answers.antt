use Rattle.std.proofs.Common.{rules, sym, FitsSigned, w32}
use Rattle.std.proofs.lemmas.Int.{to_z-of_z}
use Rattle.gf_plane.specs.Moving.{minus}
use Rattle.gf_shape.proofs.OvalLemmas.{ellipse_beside}
use Rattle.gf_shape.proofs.oval.Oval.holds.Goals as goal

pub returns : goal.returns
returns c =
    let f : FitsSigned w32 c.args.p.x = search rules in
    let g : FitsSigned w32 c.args.p.y = search rules in
    let h : FitsSigned w32 c.self.inside.centre.x = search rules in
    let k : FitsSigned w32 c.self.inside.centre.y = search rules in
    let x = simp to_z-of_z at c.apart-x.ensures.value in
    let y = simp to_z-of_z at c.apart-y.ensures.value in
    rw (← c.self.view_is, c.is_within.ensures, x, y)
    (sym (ellipse_beside c.self.inside.rx c.self.inside.ry (minus c.args.p c.self.inside.centre)))
