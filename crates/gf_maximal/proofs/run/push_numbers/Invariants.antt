use Rattle.std.proofs.Common.{◌≡◌, ◌++◌, ◌-◌}
use Rattle.std.specs.List.{range_with_len}
use Rattle.gf_maximal.specs.Runs.{numbers_of}
use Rattle.gf_maximal.proofs.run.push_numbers.Given as goal

abbrev pub invariant-loop-number : goal.invariant-loop-number
invariant-loop-number l = l.numbers.items ++ range_with_len l.number
    (l.number-end - l.number) ≡ l.initial.numbers.items ++ numbers_of l.fn.run
