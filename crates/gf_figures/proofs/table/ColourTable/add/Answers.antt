use Rattle.std.proofs.Common.{◌∙◌}
use Rattle.gf_figures.proofs.TableLemmas.{insert_entry-free}
use Rattle.gf_figures.proofs.table.ColourTable.add.Goals as goal

pub returns-clause-ok : goal.returns-clause-ok
returns-clause-ok c = rw (← c.self.view_is) (c.in_ok-insert.ensures.entries
    ∙ insert_entry-free c.self.inside.entries c.args.number c.args.colour
    (rw (← c.self.view_is) at c.requires))
