use Rattle.gf_causal.proofs.HeldLemmas.{found_held, none_held}
use Rattle.gf_causal.proofs.buffer.Buffer.find.Goals as goal

pub returns-clause-found : goal.returns-clause-found
returns-clause-found c = rw (← c.self.view_is)
    (found_held _ c.self.invariant c.args.id _ c.get.ensures)

pub returns-clause-none : goal.returns-clause-none
returns-clause-none c = rw (← c.self.view_is)
    (none_held _ c.self.invariant c.args.id _ c.get.ensures)
