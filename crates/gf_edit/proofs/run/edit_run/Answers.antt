use Rattle.std.proofs.Common.{rules}
use Rattle.gf_edit.proofs.EditLemmas.{run_refuses}
use Rattle.gf_edit.proofs.run.edit_run.Goals as goal

pub returns-clause-refused : goal.returns-clause-refused
returns-clause-refused g c = run_refuses _ c.args.editor (λ given e gives. search rules)
    (g.R.Source.left c.args.source.now) c.run.result c.run.ensures.refused
