-- Which points make a polygon (this project's choice).
use Rattle.std.specs.Prelude.{Bool, ◌&&◌, List, length}
use Rattle.std.specs.List.{list_all}
use Rattle.gf_plane.specs.declared.point.Point.{Point}
use Rattle.gf_plane.specs.Reach.{is_within_reach}
use Rattle.gf_plane.specs.PointCounts.{is_polygon_count}

-- the points ps are as many as a polygon may have, and all of them lie within reach
abbrev pub is_polygon : List Point → Bool
is_polygon ps = is_polygon_count (length ps) && list_all is_within_reach ps
