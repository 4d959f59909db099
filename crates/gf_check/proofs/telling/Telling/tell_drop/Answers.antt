use Rattle.gf_check.proofs.ToldLemmas.{drop_told}
use Rattle.gf_check.proofs.telling.Telling.tell_drop.Goals as goal

pub returns : goal.returns
returns c = λ told is fresh. drop_told told c.args.self.now _ c.args.id c.args.fault _ _
    c.push_fault.result c.push_fault.ensures c.check_number.ensures c.in-Ok.ensures.updates.0
    c.on_one_line-why.ensures.one_line is
