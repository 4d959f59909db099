use Rattle.gf_inspect.proofs.AimedChangeLemmas.{aims_by_name}
use Rattle.gf_inspect.proofs.aiming.aimed_at.Goals as goal

pub returns : goal.returns
returns c = rw c.aimed_change.ensures (aims_by_name c.args.history.now.ops c.args.point c.args.value
    c.in_ok-name.name c.in_ok-name.ensures)
