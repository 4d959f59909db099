use Rattle.std.proofs.Common.{rules}
use Rattle.gf_session_run.proofs.RunLemmas.{run_counts}
use Rattle.gf_session_run.proofs.run.session_run.Goals as goal

pub returns-clause-sites : goal.returns-clause-sites
returns-clause-sites g c = (
  λ e. absurd (run_counts _ c.args.sites (λ given f gives. search rules)
      (g.R.Source.left c.args.source.now) c.run.result (search rules) c.run.ensures.refused e),
  λ none. absurd (none (search rules)),
)
