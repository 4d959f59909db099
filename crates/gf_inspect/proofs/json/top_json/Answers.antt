use Rattle.std.specs.Prelude.{option_copied}
use Rattle.gf_inspect.proofs.JsonLemmas.{has_float-top}
use Rattle.gf_inspect.proofs.json.top_json.Goals as goal

pub push_line-requires : goal.push_line-requires
push_line-requires c = rw c.in_ok-top_data.ensures
    (has_float-top c.args.point (option_copied c.args.name))
