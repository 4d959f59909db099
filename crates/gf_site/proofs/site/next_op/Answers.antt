use Rattle.std.proofs.Common.{refl}
use Rattle.gf_site.proofs.AuthorLemmas.{authored_in_range, authored_next}
use Rattle.gf_site.proofs.site.next_op.Goals as goal

pub returns-clause-is : goal.returns-clause-is
returns-clause-is c = rw (c.count.ensures, c.clock.ensures) refl

pub returns-clause-in_range : goal.returns-clause-in_range
returns-clause-in_range c =
    rw (c.count.ensures, c.clock.ensures)
    (authored_in_range c.args.history.now.ops c.ops.ensures.accepted c.ops.ensures.valid c.args.site
    c.args.change c.requires.site c.requires.room c.requires.in_range)

pub returns-clause-next : goal.returns-clause-next
returns-clause-next c =
    rw (c.count.ensures, c.clock.ensures)
    (authored_next c.args.history.now.ops c.ops.ensures.accepted c.ops.ensures.valid c.args.site
    c.args.change c.requires.site)
