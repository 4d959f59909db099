use Rattle.std.proofs.Common.{◌≡◌, ◌<◌, ◌++◌, length}
use Rattle.gf_visible.specs.Choices.{answers}
use Rattle.gf_visible.specs.PendingChoices.{all_answers, weight}
use Rattle.gf_visible.proofs.searching.search.Given as goal

abbrev pub invariant-loop-next : goal.invariant-loop-next
invariant-loop-next l = record {
  leads : l.found.items ++ all_answers l.steps l.left.items ≡ answers l.steps l.steps l.fn.possible;
  room : length l.found.items < l.limit;
}

abbrev pub decreases-loop-next : goal.decreases-loop-next
decreases-loop-next l = weight (length l.steps) l.left.items
