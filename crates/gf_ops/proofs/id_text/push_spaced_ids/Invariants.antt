use Rattle.std.proofs.Common.{◌≡◌, ◌++◌, take}
use Rattle.gf_ops.specs.IdText.{spaced_ids_text}
use Rattle.gf_ops.proofs.id_text.push_spaced_ids.Given as goal

abbrev pub invariant-loop-id : goal.invariant-loop-id
invariant-loop-id l = l.out.items ≡ l.initial.out.items ++ spaced_ids_text (take l.id-index l.ids)
