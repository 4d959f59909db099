use Rattle.gf_versions.proofs.ShapeLemmas.{is_area-sizes}
use Rattle.gf_versions.proofs.shaping.rect.Goals as goal

pub unreachable-requires : goal.unreachable-requires
unreachable-requires c = let made = c.in-Err.ensures.within.1
    (is_area-sizes _ _ c.requires.width c.requires.height) in cc
