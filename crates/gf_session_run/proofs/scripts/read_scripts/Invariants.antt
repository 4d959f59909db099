use Rattle.std.proofs.Common.{length}
use Rattle.gf_session_run.specs.SessionSteps.{HasScripts}
use Rattle.gf_session_run.proofs.scripts.read_scripts.Given as goal

abbrev pub invariant-loop-number : goal.invariant-loop-number
invariant-loop-number l = HasScripts l.sites l.fn.text.items l.lines l.scripts.items

abbrev pub decreases-loop-number : goal.decreases-loop-number
decreases-loop-number l = length l.lines
