use Rattle.std.proofs.Common.{◌≡◌, ◌++◌, map, take}
use Rattle.std.specs.Prelude.{flat_map}
use Rattle.gf_status.specs.StatusJson.{waiting_json}
use Rattle.gf_status.proofs.json.push_waiting.Given as goal

abbrev pub invariant-loop-op : goal.invariant-loop-op
invariant-loop-op l = l.out.items ≡ l.initial.out.items ++ flat_map (waiting_json l.history.ops)
    (map (λ a. a.now) (take l.op-index l.waiting))
