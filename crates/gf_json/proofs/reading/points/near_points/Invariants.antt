use Rattle.std.proofs.Common.{◌≡◌, map, take}
use Rattle.std.specs.Prelude.{Some}
use Rattle.serde_json.specs.View.{view}
use Rattle.gf_json.specs.LineForms.{point}
use Rattle.gf_json.proofs.reading.points.near_points.Given as goal

abbrev pub invariant-loop-value : goal.invariant-loop-value
invariant-loop-value l =
    map (λ v. point (view v)) (take l.value-index l.values) ≡ map Some l.points.items
