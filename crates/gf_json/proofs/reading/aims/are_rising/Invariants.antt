use Rattle.std.proofs.Common.{◌≡◌, drop}
use Rattle.std.specs.Prelude.{None}
use Rattle.serde_json.specs.View.{items_view}
use Rattle.gf_json.specs.LineForms.{each, elements, pair, whole}
use Rattle.gf_json.specs.ReadLists.{rising_behind}
use Rattle.gf_json.proofs.reading.aims.are_rising.Given as goal

abbrev pub invariant-loop-value : goal.invariant-loop-value
invariant-loop-value l =
    rising_behind l.last (each (pair whole) (elements (items_view (drop l.value-index l.values))))
    ≡ rising_behind None (each (pair whole) (elements (items_view l.values)))
