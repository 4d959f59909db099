use Rattle.gf_causal.proofs.StandingLemmas.{Stands-joined}
use Rattle.gf_causal.proofs.buffer.Buffer.standing.Goals as goal

pub returns : goal.returns
returns c = rw c.join.ensures (Stands-joined _ _ _ _ _ c.among_held.ensures c.in_history.ensures)
