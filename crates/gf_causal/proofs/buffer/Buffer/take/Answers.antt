use Rattle.gf_causal.proofs.HeldLemmas.{take_held, take_free, IsKept-take}
use Rattle.gf_causal.proofs.buffer.Buffer.take.Goals as goal

pub invariant_of-self : goal.invariant_of-self
invariant_of-self c = IsKept-take _ c.self.invariant c.args.id c.remove.result
    c.remove.ensures.taken _ c.remove.ensures.left c.remove.ensures.rising

pub returns-clause-held : goal.returns-clause-held
returns-clause-held c = rw (← c.self.view_is)
    (take_held _ c.self.invariant c.args.id c.remove.result c.remove.ensures.taken _
    c.remove.ensures.left)

pub returns-clause-free : goal.returns-clause-free
returns-clause-free c = rw (← c.self.view_is)
    (take_free _ c.self.invariant c.args.id c.remove.result c.remove.ensures.taken _
    c.remove.ensures.left)
