use Rattle.std.proofs.Common.{◌≡◌, map, take}
use Rattle.serde_json.specs.View.{view}
use Rattle.gf_status.specs.StatusJson.{difference_data}
use Rattle.gf_status.proofs.json.difference_values.Given as goal

abbrev pub invariant-loop-difference : goal.invariant-loop-difference
invariant-loop-difference l = map view l.values.items
    ≡ map difference_data (take l.difference-index l.differences)
