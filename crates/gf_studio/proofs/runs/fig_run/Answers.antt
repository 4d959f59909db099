use Rattle.std.proofs.Common.{rules}
use Rattle.gf_studio.specs.RefusedRuns.{RefusesLines}
use Rattle.gf_studio.proofs.RunLemmas.{any_refuses_lines, run_refuses}
use Rattle.gf_studio.proofs.runs.fig_run.Goals as goal

pub returns-clause-refused : goal.returns-clause-refused
returns-clause-refused g c = run_refuses _ RefusesLines (λ given e gives. search rules) any_refuses_lines
    (g.R.Source.left c.args.source.now) c.run.result c.run.ensures.refused
