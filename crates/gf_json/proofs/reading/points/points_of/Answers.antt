use Rattle.std.proofs.Common.{rules, inr, length}
use Rattle.std.specs.List.{list_all}
use Rattle.std.proofs.lemmas.Bool.{and_parts}
use Rattle.serde_json.specs.View.{items_view}
use Rattle.gf_plane.specs.PointCounts.{is_polygon_count}
use Rattle.gf_ops.specs.Limits.{is_near, is_polygon}
use Rattle.gf_json.specs.LineForms.{each, elements, point}
use Rattle.gf_json.proofs.ElementLemmas.{each_kept, each_read, keeps, keeps_as}
use Rattle.gf_json.proofs.reading.points.points_of.Goals as goal

pub near_points-requires : goal.near_points-requires
near_points-requires c =
    let vs = c.args.values.now in
    let (ps, form, within) = keeps is_polygon (each point (elements (items_view vs))) (search rules)
    in
    each_kept point is_near vs ps form
    (and_parts (is_polygon_count (length ps)) (list_all is_near ps) within).1

pub returns-in-Ok : goal.returns-in-Ok
returns-in-Ok c =
    let vs = c.args.values.now in
    let ps = c.in-Ok.points.items in
    inr (rw c.new.ensures (keeps_as is_polygon (each point (elements (items_view vs))) ps
    (search rules) (each_read point vs ps c.in-Ok.ensures)))
