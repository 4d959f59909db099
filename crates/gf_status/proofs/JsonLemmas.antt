-- The lines of a status as JSON have no float.
use Rattle.std.proofs.Common.{◌≡◌, List, false, refl}
use Rattle.serde_json.specs.Written.{has_float}
use Rattle.gf_json.proofs.WrittenLemmas.{has_float-ids_data, items_have_float-map}
use Rattle.gf_status.specs.declared.differing.Difference.{Difference}
use Rattle.gf_status.specs.declared.objects.ObjectStatus.{ObjectStatus}
use Rattle.gf_status.specs.StatusJson.{difference_data, differences_data, object_data}

has_float-difference : (d : Difference) → has_float (difference_data d) ≡ false
has_float-difference d = rw (has_float-ids_data d.givers) refl

has_float-differences : (ds : List Difference) → has_float (differences_data ds) ≡ false
has_float-differences ds = items_have_float-map difference_data has_float-difference ds

pub has_float-object : (s : ObjectStatus) → has_float (object_data s) ≡ false
has_float-object s = rw (
  has_float-differences s.differences.items,
  has_float-ids_data s.hidings,
  has_float-ids_data s.changed,
) refl
