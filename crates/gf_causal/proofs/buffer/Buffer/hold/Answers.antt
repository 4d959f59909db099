use Rattle.std.proofs.Common.{rules}
use Rattle.gf_causal.proofs.HeldLemmas.{Adds-insert, IsKept-insert}
use Rattle.gf_causal.proofs.buffer.Buffer.hold.Goals as goal

pub invariant_of-self-2 : goal.invariant_of-self-2
invariant_of-self-2 c = IsKept-insert _ c.self.invariant c.args.op
    (rw c.self.view_is c.requires.free) _ (search rules) c.requires.range (search rules)

pub returns-clause-ok : goal.returns-clause-ok
returns-clause-ok c = rw (← c.self.view_is)
    (Adds-insert _ c.self.invariant c.args.op (rw c.self.view_is c.requires.free) _ (search rules))
