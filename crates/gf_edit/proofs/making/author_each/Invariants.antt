use Rattle.std.proofs.Common.{◌≡◌, ◌++◌}
use Rattle.std.specs.Vec.Iter.{into_iter_items}
use Rattle.gf_edit.specs.MakingSteps.{WritesEach}
use Rattle.gf_edit.proofs.making.author_each.Given as goal

abbrev pub invariant-loop-change : goal.invariant-loop-change
invariant-loop-change l = (l.yielded ++ into_iter_items l.change-iterator ≡ l.fn.changes.items)
    × WritesEach l.yielded l.initial.site l.site l.initial.edited l.edited
