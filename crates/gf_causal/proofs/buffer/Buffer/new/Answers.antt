use Rattle.gf_causal.proofs.HeldLemmas.{IsKept-nil}
use Rattle.gf_causal.proofs.buffer.Buffer.new.Goals as goal

pub invariant_of-result : goal.invariant_of-result
invariant_of-result c = IsKept-nil _ c.new.ensures
