use Rattle.std.proofs.Common.{◌≡◌, ◌++◌, drop}
use Rattle.gf_spans.specs.JoiningParts.{merged}
use Rattle.gf_spans.proofs.meetings.merge_from.Given as goal

abbrev pub invariant-loop-span : goal.invariant-loop-span
invariant-loop-span l = l.spans.items ++ merged l.current
    (drop l.span-index l.rest) ≡ l.initial.spans.items ++ merged l.fn.first l.rest
