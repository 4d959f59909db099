use Rattle.gf_fig_named.proofs.NamedLemmas.{named_text_reads, named_text_shows}
use Rattle.gf_fig_named.proofs.laws.the_named_text_of_a_history_shows_it.Goals as goal

pub returns-clause-reads : goal.returns-clause-reads
returns-clause-reads c = named_text_reads

pub returns-clause-shows : goal.returns-clause-shows
returns-clause-shows c = named_text_shows
