use Rattle.gf_fig_read.proofs.LawfulLemmas.{lawful_read}
use Rattle.gf_fig_read.proofs.laws.what_a_text_reads_as_is_lawful.Goals as goal

pub returns : goal.returns
returns c = lawful_read
