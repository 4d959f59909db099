use Rattle.std.proofs.Common.{◌≡◌, map, take}
use Rattle.serde_json.specs.View.{view}
use Rattle.gf_json.specs.WrittenValues.{point_data}
use Rattle.gf_json.proofs.writing.values.point_values.Given as goal

abbrev pub invariant-loop-point : goal.invariant-loop-point
invariant-loop-point l = map view l.values.items ≡ map point_data (take l.point-index l.points)
