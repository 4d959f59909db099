use Rattle.gf_studio.proofs.naming.named_of_replica.Goals as goal

pub named_bytes-requires : goal.named_bytes-requires
named_bytes-requires c = rw c.history.ensures.ops c.in_ok-ranked.ensures.ranked
