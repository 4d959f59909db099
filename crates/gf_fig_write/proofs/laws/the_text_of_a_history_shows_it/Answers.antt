use Rattle.gf_fig_write.proofs.CanonicalLemmas.{canonical_reads, canonical_shows}
use Rattle.gf_fig_write.proofs.laws.the_text_of_a_history_shows_it.Goals as goal

pub returns-clause-reads : goal.returns-clause-reads
returns-clause-reads c = canonical_reads

pub returns-clause-shows : goal.returns-clause-shows
returns-clause-shows c = canonical_shows
