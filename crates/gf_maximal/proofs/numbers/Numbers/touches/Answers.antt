use Rattle.gf_maximal.proofs.PutLemmas.{touches_told}
use Rattle.gf_maximal.proofs.numbers.Numbers.touches.Goals as goal

pub returns : goal.returns
returns c = touches_told c.args.run c.self.inside.runs.items c.deref.result.now c.args.self.now
    c.touches.result c.deref.ensures.value c.self.invariant c.self.view_is c.touches.ensures
