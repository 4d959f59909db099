use Rattle.gf_figures.proofs.LawfulLemmas.{IsLawfulDrawing-add_figure}
use Rattle.gf_figures.proofs.drawing.Drawing.add_figure.Goals as goal

pub invariant_of-self-2 : goal.invariant_of-self-2
invariant_of-self-2 g c = rw c.in_ok-push.ensures.items
    (IsLawfulDrawing-add_figure _ _ c.args.figure c.self.invariant
    (rw (← c.self.view_is) at c.requires))
