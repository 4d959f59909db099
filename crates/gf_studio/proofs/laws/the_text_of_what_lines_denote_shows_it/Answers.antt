use Rattle.gf_fig_write.proofs.CanonicalLemmas.{canonical_reads, canonical_shows}
use Rattle.gf_studio.proofs.laws.the_text_of_what_lines_denote_shows_it.Goals as goal

pub returns-clause-reads : goal.returns-clause-reads
returns-clause-reads c = λ bytes h d w. canonical_reads h d w.delivers.valid

pub returns-clause-shows : goal.returns-clause-shows
returns-clause-shows c = λ bytes h d w. canonical_shows h d w.delivers.valid
