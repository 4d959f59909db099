use Rattle.gf_take_run.proofs.reading.read_drawing.Goals as goal

pub returns-clause-named : goal.returns-clause-named
returns-clause-named c = c.in_ok-names.ensures.figures c.in-Ok.drawing c.in-Ok.ensures.reads
