use Rattle.gf_status.proofs.run.status_of.Goals as goal

pub status_of_replica-requires : goal.status_of_replica-requires
status_of_replica-requires g c = c.new-statuses.ensures c.in_ok-replica.replica.ops
