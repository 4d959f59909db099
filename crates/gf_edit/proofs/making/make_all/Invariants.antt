use Rattle.std.proofs.Common.{◌≡◌, ◌++◌}
use Rattle.std.specs.Vec.Iter.{into_iter_items}
use Rattle.gf_edit.specs.MakingSteps.{HasPassed}
use Rattle.gf_edit.proofs.making.make_all.Given as goal

abbrev pub invariant-loop-numbered : goal.invariant-loop-numbered
invariant-loop-numbered l = (l.yielded ++ into_iter_items l.numbered-iterator ≡ l.fn.commands.items)
    × HasPassed l.initial.site.number l.initial.site.ops l.yielded l.site l.edited
