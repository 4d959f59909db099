use Rattle.gf_replay.proofs.RefusalLemmas.{denotes_no_drop, denotes_no_fault}
use Rattle.gf_studio.proofs.RefusalLemmas.{draws_compile}
use Rattle.gf_studio.proofs.laws.what_denotes_a_history_is_not_refused.Goals as goal

pub returns-clause-line : goal.returns-clause-line
returns-clause-line c = λ bytes h d n cause. denotes_no_fault bytes h d n cause

pub returns-clause-dropped : goal.returns-clause-dropped
returns-clause-dropped c = λ bytes h d id fault. denotes_no_drop bytes h d id fault

pub returns-clause-compile : goal.returns-clause-compile
returns-clause-compile c = λ bytes drawing d fault. draws_compile bytes drawing d fault
