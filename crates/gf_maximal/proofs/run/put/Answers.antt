use Rattle.std.proofs.Common.{rules}
use Rattle.gf_maximal.proofs.RunEditLemmas.{put_point}
use Rattle.gf_maximal.proofs.run.put.Goals as goal

pub returns-clause-ok : goal.returns-clause-ok
returns-clause-ok c = rw (put_point c.args.number c.args.runs.now.items c.first_from-index.result
    (search rules)) c.put_at.ensures.ok
