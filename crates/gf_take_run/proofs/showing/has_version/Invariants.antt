use Rattle.gf_take_run.proofs.ShownLemmas.{HasNoneAt}
use Rattle.gf_take_run.proofs.showing.has_version.Given as goal

abbrev pub invariant-loop-place : goal.invariant-loop-place
invariant-loop-place l = HasNoneAt l.shown l.place-items l.object l.place-index
