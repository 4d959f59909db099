use Rattle.gf_maximal.proofs.PutLemmas.{cut_kept, cut_told}
use Rattle.gf_maximal.proofs.numbers.Numbers.without.Goals as goal

pub invariant_of-result : goal.invariant_of-result
invariant_of-result c = cut_kept c.others.inside.runs.items c.self.inside.runs.items
    c.deref-2.result.now c.deref.result.now c.in_ok-all_cut.field-0.items c.deref-2.ensures.value
    c.deref.ensures.value c.others.invariant c.self.invariant c.in_ok-all_cut.ensures

pub returns : goal.returns
returns c = cut_told c.others.inside.runs.items c.self.inside.runs.items c.deref-2.result.now
    c.deref.result.now c.in_ok-all_cut.field-0.items c.args.others.now c.args.self.now
    c.deref-2.ensures.value c.deref.ensures.value c.others.invariant c.self.invariant
    c.others.view_is c.self.view_is c.in_ok-all_cut.ensures
