use Rattle.std.proofs.Common.{◌≡◌, map, take}
use Rattle.std.specs.Prelude.{Some}
use Rattle.serde_json.specs.View.{view}
use Rattle.gf_json.specs.LineForms.{name}
use Rattle.gf_json.proofs.reading.aims.names.Given as goal

abbrev pub invariant-loop-value : goal.invariant-loop-value
invariant-loop-value l =
    map (λ v. name (view v)) (take l.value-index l.values) ≡ map Some l.ids.items
