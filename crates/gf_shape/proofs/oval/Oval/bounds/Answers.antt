use Rattle.std.proofs.Common.{rules, ◌<◌}
use Rattle.gf_shape.proofs.OvalLemmas.{IsBounds-oval}
use Rattle.gf_shape.proofs.oval.Oval.bounds.Goals as goal

pub returns : goal.returns
returns c =
    let across : 0 < c.self.inside.rx = search rules in
    let along : 0 < c.self.inside.ry = search rules in
    rw (c.low_corner.ensures, c.high_corner.ensures, ← c.self.view_is)
    (IsBounds-oval _ across along)
