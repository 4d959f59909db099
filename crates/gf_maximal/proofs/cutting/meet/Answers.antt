use Rattle.gf_maximal.proofs.CuttingLemmas.{meet_told}
use Rattle.gf_maximal.proofs.cutting.meet.Goals as goal

pub returns : goal.returns
returns c = meet_told c.args.rows.now c.args.number c.args.met.now c.index-rows-number.result
    c.in_ok-rivals.rivals c.args.sets.now.items c.deref.result.now c.take_all.new.sets.items
    c.in_ok-found.found.items c.append.new.self.items c.requires.number c.index-rows-number.is
    c.in_ok-rivals.ensures c.deref.ensures.value c.in_ok-take_all.ensures c.in_ok-found.ensures
    c.in_ok-append.ensures.items
