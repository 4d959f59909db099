use Rattle.std.proofs.Common.{◌≡◌, map, take}
use Rattle.serde_json.specs.View.{view}
use Rattle.gf_json.specs.WrittenValues.{name_data}
use Rattle.gf_json.proofs.writing.values.name_values.Given as goal

abbrev pub invariant-loop-id : goal.invariant-loop-id
invariant-loop-id l = map view l.values.items ≡ map name_data (take l.id-index l.ids)
