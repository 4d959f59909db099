use Rattle.gf_maximal.proofs.UnitedLemmas.{united_kept, united_told}
use Rattle.gf_maximal.proofs.numbers.Numbers.united.Goals as goal

pub invariant_of-result : goal.invariant_of-result
invariant_of-result c = united_kept c.self.inside.runs.items c.others.inside.runs.items
    c.deref.result.now c.deref-2.result.now c.in_ok-united.field-0.items c.deref.ensures.value
    c.deref-2.ensures.value c.self.invariant c.others.invariant c.in_ok-united.ensures

pub returns : goal.returns
returns c = united_told c.self.inside.runs.items c.others.inside.runs.items c.deref.result.now
    c.deref-2.result.now c.in_ok-united.field-0.items c.args.self.now c.args.others.now
    c.deref.ensures.value c.deref-2.ensures.value c.self.invariant c.others.invariant c.self.view_is
    c.others.view_is c.in_ok-united.ensures
