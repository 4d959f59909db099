use Rattle.std.proofs.Common.{◌≡◌, drop, find, map}
use Rattle.gf_edit.specs.Waiting.{is_blocking}
use Rattle.gf_edit.proofs.waiting.first_blocking.Given as goal

abbrev pub invariant-loop-op : goal.invariant-loop-op
invariant-loop-op l = find (is_blocking l.editor l.history.ops)
    (map (λ a. a.now) (drop l.op-index l.ops)) ≡ find (is_blocking l.editor l.history.ops)
    (map (λ a. a.now) l.ops)
