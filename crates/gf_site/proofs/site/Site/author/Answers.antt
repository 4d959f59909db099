use Rattle.std.proofs.Common.{subst}
use Rattle.gf_site.specs.Events.{Refuses}
use Rattle.gf_site.specs.declared.faults.AuthorFault.TheVariants as fault
use Rattle.gf_site.proofs.AuthorLemmas.{authors_copy}
use Rattle.gf_site.proofs.site.Site.author.Goals as goal

pub returns-in-Err-clause-err : goal.returns-in-Err-clause-err
returns-in-Err-clause-err c = rw (← c.self.view_is)
    (subst (λ h. Refuses c.self.inside.number h c.args.change c.in-Err.fault)
    c.history.ensures.ops c.in-Err.ensures.err)

pub returns-in_default-clause-err : goal.returns-in_default-clause-err
returns-in_default-clause-err c = rw (← c.self.view_is)
    (subst (λ h. Refuses c.self.inside.number h c.args.change fault.OutOfMemory)
    c.history.ensures.ops c.in-Ok.ensures.memory)

pub returns-in_default-add-clause-err : goal.returns-in_default-add-clause-err
returns-in_default-add-clause-err c = rw (← c.self.view_is)
    (subst (λ h. Refuses c.self.inside.number h c.args.change fault.OutOfMemory)
    c.history.ensures.ops c.in-Ok.ensures.memory)

pub returns-clause-ok : goal.returns-clause-ok
returns-clause-ok c = rw (← c.self.view_is)
    (authors_copy c.self.inside.number c.self.inside.replica c.add.new.self
    c.history.result.now.ops c.args.change c.in-Ok.op c.in-Ok-copy.copy c.history.ensures.ops
    c.in-Ok.ensures.is c.in-Ok.ensures.in_range c.in-Ok.ensures.accepted c.in-Ok-copy.ensures
    c.in-Ok-add.ensures.ok)
