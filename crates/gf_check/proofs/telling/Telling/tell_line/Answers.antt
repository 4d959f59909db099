use Rattle.std.proofs.Common.{refl}
use Rattle.gf_check.proofs.ToldLemmas.{line_told}
use Rattle.gf_check.proofs.telling.Telling.tell_line.Goals as goal

pub returns : goal.returns
returns c = λ told is. line_told told c.args.self.now _ c.args.number c.args.cause _
    c.push_fault.result c.push_fault.ensures refl c.on_one_line-why.ensures.one_line is
