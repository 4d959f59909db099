use Rattle.std.proofs.Common.{rules}
use Rattle.gf_check.proofs.RunLemmas.{run_writes}
use Rattle.gf_check.proofs.checks.check_run.Goals as goal

pub returns-clause-tells : goal.returns-clause-tells
returns-clause-tells g c = run_writes _ c.args.editor (λ given a gives. search rules)
    (g.R.Source.left c.args.source.now) _ _ c.run.result c.run.ensures.writes
