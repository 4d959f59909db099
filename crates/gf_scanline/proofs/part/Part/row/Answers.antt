use Rattle.std.proofs.Common.{sym}
use Rattle.gf_scanline.specs.Layers.{row_colours}
use Rattle.gf_scanline.specs.Pieces.{layers_of}
use Rattle.gf_scanline.proofs.RowLemmas.{painted_same}
use Rattle.gf_scanline.proofs.part.Part.row.Goals as goal

pub paint_pieces-requires-clause-pieces : goal.paint_pieces-requires-clause-pieces
paint_pieces-requires-clause-pieces g c =
    let within = rw (← c.self.view_is) at c.requires in
    rw (c.deref.ensures.value, c.window-window.ensures.window)
    (c.self.invariant.pieces c.args.j within)

pub returns : goal.returns
returns g c =
    let within = rw (← c.self.view_is) at c.requires in
    let p = c.self.inside in
    let all = row_colours g.S.Shape.holds p.layers.now p.band.window c.args.j in
    let some = row_colours g.S.Shape.holds (layers_of p.pieces.items) p.band.window c.args.j in
    let begun = painted_same all all some p.band.window.width c.begin.new.self
    (λ k l. sym (c.self.invariant.seen c.args.j k within l))
    (rw c.window-window.ensures.window at (c.begin.ensures all)) in
    let painted = (rw (c.deref.ensures.value, c.window-window.ensures.window)
    at c.in_ok-paint_pieces.ensures) all begun in
    rw (← c.self.view_is) ((rw c.window-window.ensures.window at c.in_ok-strokes.ensures) all
    (rw c.layers.invariant.ground_is painted))
