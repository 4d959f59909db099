-- The walk over two lists of rising ids. No public clause cites this module.
use Rattle.std.specs.Prelude.{Bool, false, List, [], ◌∷◌, if◌then◌else◌}
use Rattle.std.specs.Ordering.{is_lt}
use Rattle.gf_ops.specs.declared.op.OpId.{OpId}
use Rattle.gf_ops.specs.OperationOrder.{id_cmp}
use Rattle.gf_groups.specs.VersionList.{id_eq}

-- the ids from the first one on that does not come before i
abbrev pub from_id : OpId → List OpId → List OpId
from_id i [] = []
from_id i (j ∷ ids) = if is_lt (id_cmp j i) then from_id i ids else j ∷ ids

-- the first of the ids is i
abbrev pub begins_with : OpId → List OpId → Bool
begins_with i [] = false
begins_with i (j ∷ ids) = id_eq j i

-- the ids that others lack, where both rise
abbrev pub lacking : List OpId → List OpId → List OpId
lacking [] others = []
lacking (i ∷ ids) others =
    if begins_with i (from_id i others) then lacking ids (from_id i others)
    else i ∷ lacking ids (from_id i others)
