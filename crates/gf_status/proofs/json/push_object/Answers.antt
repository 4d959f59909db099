use Rattle.gf_status.proofs.JsonLemmas.{has_float-object}
use Rattle.gf_status.proofs.json.push_object.Goals as goal

pub push_line-requires : goal.push_line-requires
push_line-requires c = rw c.in_ok-object_data.ensures (has_float-object c.args.status.now)
