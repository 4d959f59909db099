use Rattle.std.proofs.Common.{◌≡◌, ◌≤◌, ◌+◌, ◌++◌, true, length, drop}
use Rattle.gf_visible.specs.Choices.{all_hold, answers}
use Rattle.gf_visible.specs.PendingChoices.{all_answers, weight, weight_of}
use Rattle.gf_visible.proofs.searching.follow.Given as goal

abbrev pub invariant-loop-index : goal.invariant-loop-index
invariant-loop-index l = record {
  leads : answers l.steps (drop l.index l.steps) l.possible ++ all_answers l.steps
      l.left.items ≡ answers l.steps (drop l.fn.next.at l.steps) l.fn.next.possible ++ all_answers
      l.steps l.fn.left.items;
  holds : all_hold l.steps l.possible ≡ true;
  lighter : weight (length l.steps) l.left.items + weight_of (length l.steps) l.index ≤ weight_of
      (length l.steps) l.fn.next.at + weight (length l.steps) l.fn.left.items;
}
