use Rattle.std.proofs.Common.{take}
use Rattle.gf_inspect.specs.Told.{TellsEach}
use Rattle.gf_inspect.proofs.telling.object_lines.Given as goal

abbrev pub invariant-loop-id : goal.invariant-loop-id
invariant-loop-id l = TellsEach l.notation l.versions l.several (take l.id-index l.id-items)
    l.out.items
