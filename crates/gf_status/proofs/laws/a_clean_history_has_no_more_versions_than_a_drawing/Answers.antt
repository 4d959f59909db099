use Rattle.gf_status.proofs.CleanLemmas.{clean_few}
use Rattle.gf_status.proofs.laws.a_clean_history_has_no_more_versions_than_a_drawing.Goals as goal

pub returns : goal.returns
returns c = clean_few
