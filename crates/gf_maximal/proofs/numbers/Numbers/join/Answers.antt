use Rattle.gf_maximal.proofs.PutLemmas.{put_kept, put_gives}
use Rattle.gf_maximal.proofs.numbers.Numbers.join.Goals as goal

pub invariant_of-self : goal.invariant_of-self
invariant_of-self c = put_kept c.put.result c.args.number c.self.inside.runs.items
    c.put.new.runs.items c.put.ensures.ok c.put.ensures.err c.self.invariant

pub returns-clause-ok : goal.returns-clause-ok
returns-clause-ok c = put_gives c.put.result c.args.number c.self.inside.runs.items
    c.put.new.runs.items c.args.self.now c.put.ensures.ok c.self.invariant c.self.view_is
