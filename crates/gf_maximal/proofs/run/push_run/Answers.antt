use Rattle.std.proofs.Common.{rules, ◌-◌, ◌∙◌}
use Rattle.gf_maximal.proofs.RunEditLemmas.{pushed_behind, pushed_first, longer_to}
use Rattle.gf_maximal.proofs.run.push_run.Goals as goal
use Rattle.gf_maximal.proofs.run.push_run.Goals.{then-len-gt0+else-run-last, else-len-gt0}

pub returns-then-run-last : goal.returns-then-run-last
returns-then-run-last c =
    longer_to c.args.runs.now.items (c.len-len.result - 1) c.index-last.result.now c.args.run
    c.max.result (search rules) c.index-last.ensures (search rules) (search rules)

pub returns : goal.returns
returns c = c.in_ok-push.ensures.items ∙ elim c.if-len-gt0.branch [
  | then-len-gt0+else-run-last w ↦ pushed_behind c.args.runs.now.items (c.len-len.result - 1)
      w.index-last.result.now c.args.run (search rules) w.index-last.ensures (search rules)
  | else-len-gt0 w ↦ pushed_first c.args.runs.now.items c.args.run (search rules)
]
