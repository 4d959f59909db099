use Rattle.gf_maximal.proofs.SameRunLemmas.{same_told}
use Rattle.gf_maximal.proofs.numbers.Numbers.equals.Goals as goal

pub returns : goal.returns
returns c = same_told c.self.inside.runs.items c.others.inside.runs.items c.deref.result.now
    c.deref-2.result.now c.args.self.now c.args.others.now c.are_same.result c.deref.ensures.value
    c.deref-2.ensures.value c.self.invariant c.others.invariant c.self.view_is c.others.view_is
    c.are_same.ensures
