use Rattle.std.proofs.Common.{rules}
use Rattle.gf_maximal.proofs.RunEditLemmas.{put_at_lower}
use Rattle.gf_maximal.proofs.run.put_at.Goals as goal

pub returns-then-run-number-3-clause-ok : goal.returns-then-run-number-3-clause-ok
returns-then-run-number-3-clause-ok c = put_at_lower c.args.number c.args.runs.now.items
    c.args.index c.index-run.result.now (search rules) (search rules) (search rules) (search rules)
    (search rules)
