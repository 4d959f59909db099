use Rattle.gf_inspect.proofs.TopNameLemmas.{first_names}
use Rattle.gf_inspect.proofs.top.top_at_with.Goals as goal

pub returns : goal.returns
returns c = rw c.first_name.ensures (first_names c.args.versions.now c.args.point
    c.in_ok-ranked.ranked.items.items c.in_ok-ranked.ensures)
