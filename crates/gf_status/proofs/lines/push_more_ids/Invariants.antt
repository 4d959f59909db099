use Rattle.std.proofs.Common.{◌≡◌, ◌++◌, take}
use Rattle.gf_status.specs.StatusLines.{more_ids_text}
use Rattle.gf_status.proofs.lines.push_more_ids.Given as goal

abbrev pub invariant-loop-id : goal.invariant-loop-id
invariant-loop-id l = l.out.items ≡ l.initial.out.items ++ more_ids_text (take l.id-index l.ids)
