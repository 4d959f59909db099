use Rattle.gf_scanline.proofs.brush.Brush.append.Goals as goal

pub returns : goal.returns
returns c = rw (← c.self.view_is) (c.in_ok-append_pattern.ensures c.self.inside.colour
    (rw c.deref.ensures.value c.self.invariant))
