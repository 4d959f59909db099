use Rattle.std.proofs.Common.{rules}
use Rattle.gf_studio.specs.RefusedRuns.{RefusesAnswer}
use Rattle.gf_studio.proofs.RunLemmas.{any_refuses_answer, run_refuses}
use Rattle.gf_studio.proofs.inspecting.inspect_run.Goals as goal

pub returns-clause-refused : goal.returns-clause-refused
returns-clause-refused g c = run_refuses _ (RefusesAnswer c.args.inspection.query) (λ given e gives. search rules) (any_refuses_answer c.args.inspection.query)
    (g.R.Source.left c.args.source.now) c.run.result c.run.ensures.refused
