use Rattle.gf_scanline.proofs.strip.Strip.is_covered.Goals as goal

pub returns-clause-none : goal.returns-clause-none
returns-clause-none c = rw (← c.self.view_is) c.is_empty.ensures
