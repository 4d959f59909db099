use Rattle.std.proofs.Common.{◌+◌, ◌<◌, ◌≤◌, drop, length, rules, arith, ap, sym, ◌∙◌}
use Rattle.gf_scanline.specs.Layers.{layer_over, row_colours}
use Rattle.gf_scanline.specs.Pieces.{layers_of}
use Rattle.gf_scanline.proofs.RowLemmas.{painted_same, pieces_next, pieces_done}
use Rattle.gf_scanline.proofs.row.paint_pieces.Goals as goal

pub loop-piece-preserved : goal.loop-piece-preserved
loop-piece-preserved g c =
    let ps = c.args.pieces.now in
    let i = c.loop-piece.piece-index in
    let l : i < length ps = search rules in
    let rest = row_colours g.S.Shape.holds (layers_of (drop (i + 1) ps)) c.args.window c.args.j in
    λ target h. c.in_ok-paint_piece.ensures target rest
    (painted_same target (row_colours g.S.Shape.holds (layers_of (drop i ps)) c.args.window
    c.args.j) (layer_over g.S.Shape.holds c.args.window c.args.j rest c.piece-item.result.layer.now)
    c.args.window.width c.loop-piece.strip
    (λ k m. pieces_next g.S.Shape.holds c.args.window c.args.j ps i c.piece-item.result k l
    ∙ ap (λ x. layer_over g.S.Shape.holds c.args.window c.args.j rest x.layer.now k)
    (sym c.piece-item.is))
    (c.loop-piece.invariant target h))

pub returns : goal.returns
returns g c = λ target h.
    let l : length c.args.pieces.now ≤ c.loop-piece.piece-index = search (rules, arith) in
    pieces_done g.S.Shape.holds target c.args.window c.args.j c.args.pieces.now
    c.loop-piece.piece-index c.args.window.width c.loop-piece.strip l
    (c.loop-piece.invariant target h)
