use Rattle.gf_fig_read.proofs.GrammarLemmas.{either, one_drawing, one_fault, not_both}
use Rattle.gf_fig_read.proofs.FaultLemmas.{front_has_no_object, memory_is_no_fault}
use Rattle.gf_fig_read.proofs.laws.every_text_reads_as_one_drawing_or_fails_once.Goals as goal

pub returns-clause-either : goal.returns-clause-either
returns-clause-either c = either

pub returns-clause-one_drawing : goal.returns-clause-one_drawing
returns-clause-one_drawing c = one_drawing

pub returns-clause-one_fault : goal.returns-clause-one_fault
returns-clause-one_fault c = one_fault

pub returns-clause-not_both : goal.returns-clause-not_both
returns-clause-not_both c = not_both

pub returns-clause-header : goal.returns-clause-header
returns-clause-header c = front_has_no_object

pub returns-clause-memory : goal.returns-clause-memory
returns-clause-memory c = memory_is_no_fault
