use Rattle.gf_inspect.proofs.JsonLemmas.{has_float-version}
use Rattle.gf_inspect.proofs.json.push_version.Goals as goal

pub push_line-requires : goal.push_line-requires
push_line-requires c = rw c.in_ok-version_data.ensures (has_float-version c.args.version.now)
