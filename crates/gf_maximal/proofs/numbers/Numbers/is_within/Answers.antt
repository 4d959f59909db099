use Rattle.gf_maximal.proofs.PutLemmas.{within_told}
use Rattle.gf_maximal.proofs.numbers.Numbers.is_within.Goals as goal

pub returns : goal.returns
returns c = within_told c.self.inside.runs.items c.deref.result.now c.args.others.now
    c.args.self.now c.all_covered.result c.deref.ensures.value c.self.view_is c.all_covered.ensures
