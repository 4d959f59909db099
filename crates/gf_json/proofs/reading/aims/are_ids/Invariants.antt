use Rattle.std.proofs.Common.{◌≡◌, ◌&&◌, drop}
use Rattle.std.specs.Prelude.{option_map}
use Rattle.std.specs.List.{list_all}
use Rattle.serde_json.specs.View.{items_view}
use Rattle.gf_ops.specs.Limits.{is_id}
use Rattle.gf_json.specs.LineForms.{each, elements, name}
use Rattle.gf_json.proofs.reading.aims.are_ids.Given as goal

abbrev pub invariant-loop-value : goal.invariant-loop-value
invariant-loop-value l =
    option_map (λ is. l.within && list_all is_id is)
    (each name (elements (items_view (drop l.value-index l.values))))
    ≡ option_map (list_all is_id) (each name (elements (items_view l.values)))
