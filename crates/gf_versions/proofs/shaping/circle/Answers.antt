use Rattle.gf_versions.proofs.ShapeLemmas.{is_round-size}
use Rattle.gf_versions.proofs.shaping.circle.Goals as goal

pub unreachable-requires : goal.unreachable-requires
unreachable-requires c = let made = c.in-Err.ensures.within.1 (is_round-size _ c.requires) in cc
