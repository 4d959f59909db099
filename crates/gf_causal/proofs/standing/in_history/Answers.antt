use Rattle.gf_causal.proofs.StandingLemmas.{one_of_pairs, Among-from_Compares}
use Rattle.gf_causal.proofs.standing.in_history.Goals as goal

pub returns : goal.returns
returns c = Among-from_Compares _ c.args.op.now _ _
    (one_of_pairs _ c.ops-ops.ensures.valid.distinct) c.get.ensures.found c.get.ensures.none
    c.compare.ensures
