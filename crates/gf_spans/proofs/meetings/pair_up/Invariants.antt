use Rattle.std.proofs.Common.{◌≡◌, ◌++◌, drop, None}
use Rattle.gf_spans.specs.JoiningParts.{pairs_from}
use Rattle.gf_spans.proofs.meetings.pair_up.Given as goal

abbrev pub invariant-loop-place : goal.invariant-loop-place
invariant-loop-place l = l.found.items ++ pairs_from l.before
    (drop l.place-index l.places) ≡ l.initial.found.items ++ pairs_from None l.places
