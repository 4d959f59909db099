use Rattle.gf_maximal.proofs.PutLemmas.{covers_told}
use Rattle.gf_maximal.proofs.numbers.Numbers.covers.Goals as goal

pub returns : goal.returns
returns c = covers_told c.args.run c.self.inside.runs.items c.deref.result.now c.args.self.now
    c.covers.result c.deref.ensures.value c.self.invariant c.self.view_is c.covers.ensures
