use Rattle.gf_versions.proofs.ShapeLemmas.{shape_movable}
use Rattle.gf_versions.proofs.shaping.shape_at.Goals as goal

pub moved-requires : goal.moved-requires
moved-requires c = rw c.in_ok-shape.ensures
    (shape_movable c.args.form.now c.args.place c.requires.form c.requires.place)
