use Rattle.gf_edit.proofs.JoinLemmas.{joins}
use Rattle.gf_edit.proofs.laws.what_an_edit_writes_joins_what_it_read.Goals as goal

pub returns : goal.returns
returns c = λ s bytes others new site j. joins s bytes others new site j
