use Rattle.gf_versions.proofs.ShapeLemmas.{is_oblong-sizes}
use Rattle.gf_versions.proofs.shaping.ellipse.Goals as goal

pub unreachable-requires : goal.unreachable-requires
unreachable-requires c = let made = c.in-Err.ensures.within.1
    (is_oblong-sizes c.args.rx c.args.ry c.requires.rx c.requires.ry) in cc
