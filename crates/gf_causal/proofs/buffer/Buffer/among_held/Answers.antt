use Rattle.gf_causal.proofs.HeldLemmas.{one_held}
use Rattle.gf_causal.proofs.StandingLemmas.{Among-from_Compares}
use Rattle.gf_causal.proofs.buffer.Buffer.among_held.Goals as goal

pub returns : goal.returns
returns c = Among-from_Compares _ c.args.op.now _ _
    (rw (← c.self.view_is) (one_held _ c.self.invariant)) c.find.ensures.found c.find.ensures.none
    c.compare.ensures
