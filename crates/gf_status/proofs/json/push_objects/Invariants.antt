use Rattle.std.proofs.Common.{◌≡◌, ◌++◌, take}
use Rattle.std.specs.Prelude.{flat_map}
use Rattle.gf_status.specs.StatusJson.{object_json}
use Rattle.gf_status.proofs.json.push_objects.Given as goal

abbrev pub invariant-loop-status : goal.invariant-loop-status
invariant-loop-status l = l.out.items ≡ l.initial.out.items ++ flat_map object_json
    (take l.status-index l.statuses)
