use Rattle.gf_session_run.proofs.ScriptLemmas.{AreEmpty}
use Rattle.gf_session_run.proofs.scripts.empty_scripts.Given as goal

abbrev pub invariant-loop : goal.invariant-loop
invariant-loop l = AreEmpty l.counter l.scripts.items
