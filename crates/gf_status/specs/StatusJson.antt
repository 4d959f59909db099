-- A status as lines of JSON (this project's choice; a count of 1,001 is more than 1,000).
use Rattle.std.specs.Prelude.{ℕ, Bool, true, false, cond, nat_le, List, [], ◌∷◌, ◌++◌, codes, map}
use Rattle.std.specs.Prelude.{flat_map}
use Rattle.serde_json.specs.Data.{Data, array, boolean, string}
use Rattle.serde_json.specs.View.{items_of}
use Rattle.gf_json.specs.Notations.{json_line, object_of}
use Rattle.gf_json.specs.WrittenValues.{ids_data, name_data, natural_data}
use Rattle.gf_ops.specs.declared.op.Op.{Op}
use Rattle.gf_ops.specs.declared.op.OpId.{OpId}
use Rattle.gf_ops.specs.OperationOrder.{count_of}
use Rattle.gf_causal.specs.Waiting.{waits_for}
use Rattle.gf_status.specs.declared.state.State.{State}
use Rattle.gf_status.specs.declared.state.State.TheVariants.{Clean, Open}
use Rattle.gf_status.specs.declared.differing.Difference.{Difference}
use Rattle.gf_status.specs.declared.objects.ObjectStatus.{ObjectStatus}
use Rattle.gf_status.specs.StatusLines.{attribute_word, shown_in}

-- the site s has n operations
abbrev pub site_data : ℕ → ℕ → Data
site_data s n =
    object_of ((codes "operations", natural_data n) ∷ (codes "site", natural_data s) ∷ [])

-- the line of the site s, if it has operations of h
abbrev pub site_json : List Op → ℕ → List ℕ
site_json h s = cond (nat_le 1 (count_of h s)) (json_line (site_data s (count_of h s))) []

-- the operation under i waits for the one under j
abbrev pub waiting_data : OpId → OpId → Data
waiting_data i j =
    object_of ((codes "operation", name_data i) ∷ (codes "waits_for", name_data j) ∷ [])

-- the line of an operation that waits behind h
abbrev pub waiting_json : List Op → Op → List ℕ
waiting_json h a = json_line (waiting_data a.id (waits_for h a))

-- an attribute that differs, and the operations that give its values
abbrev pub difference_data : Difference → Data
difference_data d = object_of (
    (codes "attribute", string (attribute_word d.attribute))
    ∷ (codes "operations", ids_data d.givers)
    ∷ [])

-- the attributes that differ
abbrev pub differences_data : List Difference → Data
differences_data ds = array (items_of (map difference_data ds))

-- the status of an object
abbrev pub object_data : ObjectStatus → Data
object_data s = object_of (
    (codes "differences", differences_data s.differences.items)
    ∷ (codes "hidings", ids_data s.hidings)
    ∷ (codes "object", name_data s.object.0)
    ∷ (codes "shown", natural_data s.shown)
    ∷ (codes "unseen", ids_data s.changed)
    ∷ (codes "versions", natural_data s.versions)
    ∷ [])

-- the line of an object
abbrev pub object_json : ObjectStatus → List ℕ
object_json s = json_line (object_data s)

-- whether a status is clean
abbrev pub is_clean : State → Bool
is_clean Clean = true
is_clean Open = false

-- how many versions are shown in all, and whether the status is clean
abbrev pub drawing_data : ℕ → State → Data
drawing_data n state = object_of (
    (codes "clean", boolean (is_clean state)) ∷ (codes "shown", natural_data n) ∷ [])

-- the text of a status: of the history h, of what waits behind h, and of the objects
abbrev pub status_json : List Op → List Op → List ObjectStatus → State → List ℕ
status_json h waiting ss state =
    flat_map (site_json h) (1 ∷ 2 ∷ 3 ∷ 4 ∷ 5 ∷ 6 ∷ 7 ∷ 8 ∷ []) ++ flat_map (waiting_json h) waiting
    ++ flat_map object_json ss ++ json_line (drawing_data (shown_in ss) state)
