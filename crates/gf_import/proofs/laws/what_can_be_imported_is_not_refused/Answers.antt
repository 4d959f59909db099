use Rattle.gf_import.proofs.NotRefusedLemmas.{only_memory}
use Rattle.gf_import.proofs.laws.what_can_be_imported_is_not_refused.Goals as goal

pub returns : goal.returns
returns c = only_memory
