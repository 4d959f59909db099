use Rattle.gf_figures.proofs.LawfulLemmas.{IsLawfulDrawing-add_colour}
use Rattle.gf_figures.proofs.drawing.Drawing.add_colour.Goals as goal

pub invariant_of-self-2 : goal.invariant_of-self-2
invariant_of-self-2 g c = rw c.in_ok-add.ensures.ok (IsLawfulDrawing-add_colour _ _ c.args.number
    c.args.colour c.self.invariant (rw (← c.self.view_is) at c.requires))
