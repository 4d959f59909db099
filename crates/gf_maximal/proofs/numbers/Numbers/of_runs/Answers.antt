use Rattle.gf_maximal.proofs.UnitedLemmas.{full_runs, full_told, full_has}
use Rattle.gf_maximal.proofs.numbers.Numbers.of_runs.Goals as goal

pub invariant_of-result : goal.invariant_of-result
invariant_of-result c = full_runs c.args.runs.items c.in_ok-gathered_full.field-0.items
    c.in_ok-gathered_full.ensures

pub returns-clause-numbers : goal.returns-clause-numbers
returns-clause-numbers c = full_told c.args.runs.items c.in_ok-gathered_full.field-0.items
    c.in_ok-gathered_full.ensures

pub returns-clause-has : goal.returns-clause-has
returns-clause-has c = full_has c.args.runs.items c.in_ok-gathered_full.field-0.items
    c.in_ok-gathered_full.ensures
