use Rattle.std.proofs.Common.{◌≡◌, ◌++◌, map, take}
use Rattle.std.specs.Prelude.{flat_map}
use Rattle.gf_status.specs.StatusLines.{waiting_line}
use Rattle.gf_status.proofs.lines.push_waiting.Given as goal

abbrev pub invariant-loop-op : goal.invariant-loop-op
invariant-loop-op l = l.out.items ≡ l.initial.out.items ++ flat_map (waiting_line l.history.ops)
    (map (λ a. a.now) (take l.op-index l.waiting))
