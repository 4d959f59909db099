use Rattle.std.proofs.Common.{◌≡◌, IsTrue, take}
use Rattle.std.specs.Prelude.{fold}
use Rattle.gf_plane.specs.Reach.{is_within_reach}
use Rattle.gf_objects.specs.Boxes.{greatest_corner, point_at}
use Rattle.gf_objects.proofs.places.greatest_of.Given as goal

abbrev pub invariant-loop-p : goal.invariant-loop-p
invariant-loop-p l =
    (l.greatest ≡ fold greatest_corner (point_at l.points 0) (take l.p-index l.points))
    × IsTrue (is_within_reach l.greatest)
