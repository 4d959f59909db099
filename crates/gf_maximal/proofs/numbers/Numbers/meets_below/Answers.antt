use Rattle.gf_maximal.proofs.PutLemmas.{below_told}
use Rattle.gf_maximal.proofs.numbers.Numbers.meets_below.Goals as goal

pub returns : goal.returns
returns c = below_told c.args.end c.self.inside.runs.items c.deref.result.now c.args.self.now
    c.args.others.now c.any_below.result c.deref.ensures.value c.self.view_is c.any_below.ensures
