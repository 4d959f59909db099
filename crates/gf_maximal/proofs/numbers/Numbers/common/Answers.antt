use Rattle.gf_maximal.proofs.UnitedLemmas.{common_is}
use Rattle.gf_maximal.proofs.numbers.Numbers.common.Goals as goal

pub returns : goal.returns
returns c = rw (← common_is c.args.others.now c.args.self.now, ← c.in_ok-rest.ensures)
    c.without-2.ensures
