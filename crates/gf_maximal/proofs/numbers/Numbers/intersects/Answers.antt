use Rattle.std.proofs.Common.{◌∙◌}
use Rattle.gf_maximal.proofs.MaximalLemmas.{intersects_swapped}
use Rattle.gf_maximal.proofs.PutLemmas.{intersects_told}
use Rattle.gf_maximal.proofs.numbers.Numbers.intersects.Goals as goal

pub returns-then-len : goal.returns-then-len
returns-then-len c = intersects_told c.self.inside.runs.items c.others.inside.runs.items
    c.deref.result.now c.deref-then-len.result.now c.args.self.now c.args.others.now
    c.any_touches.result c.deref.ensures.value c.deref-then-len.ensures.value c.others.invariant
    c.self.view_is c.others.view_is c.any_touches.ensures

pub returns-else-len : goal.returns-else-len
returns-else-len c = intersects_told c.others.inside.runs.items c.self.inside.runs.items
    c.deref-else-len.result.now c.deref-else-len-2.result.now c.args.others.now c.args.self.now
    c.any_touches-else-len.result c.deref-else-len.ensures.value c.deref-else-len-2.ensures.value c.self.invariant
    c.others.view_is c.self.view_is c.any_touches-else-len.ensures
    ∙ intersects_swapped c.args.self.now c.args.others.now
