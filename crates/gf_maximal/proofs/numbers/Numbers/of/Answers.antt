use Rattle.gf_maximal.proofs.UnitedLemmas.{singles_kept, singles_told}
use Rattle.gf_maximal.proofs.numbers.Numbers.of.Goals as goal

pub invariant_of-result : goal.invariant_of-result
invariant_of-result c = singles_kept c.args.numbers.now c.in_ok-runs_of.field-0.items
    c.in_ok-runs_of.ensures

pub returns : goal.returns
returns c = singles_told c.args.numbers.now c.in_ok-runs_of.field-0.items c.in_ok-runs_of.ensures
