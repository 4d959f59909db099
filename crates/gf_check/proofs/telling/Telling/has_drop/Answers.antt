use Rattle.gf_check.proofs.ToldLemmas.{drop_kept}
use Rattle.gf_check.proofs.telling.Telling.has_drop.Goals as goal

pub returns : goal.returns
returns c = λ told is. drop_kept told c.args.self.now c.args.id c.args.fault _ _
    c.check_number.ensures c.contains.ensures is
