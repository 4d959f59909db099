use Rattle.std.proofs.Common.{◌≡◌, map, take}
use Rattle.serde_json.specs.View.{view}
use Rattle.gf_json.specs.WrittenValues.{natural_data}
use Rattle.gf_json.proofs.writing.values.entries.Given as goal

abbrev pub invariant-loop-number : goal.invariant-loop-number
invariant-loop-number l = map view l.values.items ≡ map natural_data (take l.number-index l.numbers)
