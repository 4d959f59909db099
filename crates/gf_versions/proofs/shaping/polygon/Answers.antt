use Rattle.std.proofs.Common.{rules}
use Rattle.gf_versions.proofs.ShapeLemmas.{is_polygon-lawful}
use Rattle.gf_versions.proofs.shaping.polygon.Goals as goal

pub unreachable-requires : goal.unreachable-requires
unreachable-requires c = let lawful = is_polygon-lawful c.args.points.now c.requires in search rules

pub unreachable-requires-in-Err-Range : goal.unreachable-requires-in-Err-Range
unreachable-requires-in-Err-Range c = let lawful = is_polygon-lawful c.args.points.now c.requires in
    search rules
