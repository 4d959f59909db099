use Rattle.std.proofs.Common.{FitsSigned, w32, rules, sym, ◌∙◌}
use Rattle.std.proofs.lemmas.Int.{to_z-of_z}
use Rattle.std.specs.List.{list_any}
use Rattle.gf_spans.specs.Spans.{is_in_span}
use Rattle.gf_scanline.specs.Strips.{over}
use Rattle.gf_scanline.specs.Windows.{column}
use Rattle.gf_scanline.specs.Layers.{layer_over}
use Rattle.gf_scanline.proofs.PieceLemmas.{piece_columns}
use Rattle.gf_scanline.proofs.RowLemmas.{painted_same, layer_row, layer_outside}
use Rattle.gf_scanline.proofs.row.paint_piece.Goals as goal

pub returns-then-not-reaches : goal.returns-then-not-reaches
returns-then-not-reaches g c = λ target behind h.
    let f32 : FitsSigned w32 c.line-y.result = search rules in
    let layer = c.args.piece.now.layer.now in
    painted_same target (layer_over g.S.Shape.holds c.args.window c.args.j behind layer) behind
    c.args.window.width c.args.strip.now (λ k l. layer_outside g.S.Shape.holds c.args.window
    c.args.j behind layer c.line-y.result c.args.piece.now.bounds c.line-y.ensures
    c.requires.piece.bounds (sym (simp to_z-of_z at c.reaches.ensures) ∙ c.if-not-reaches.true) k) h

pub returns-then-not-has_free : goal.returns-then-not-has_free
returns-then-not-has_free g c = λ target behind h.
    let layer = c.args.piece.now.layer.now in
    c.has_free.ensures.unseen c.if-not-has_free.true target
    (layer_over g.S.Shape.holds c.args.window c.args.j behind layer) behind c.args.window.width
    (piece_columns g.S.Shape.holds c.args.window c.args.j c.args.piece.now behind c.requires.piece)
    h

pub returns : goal.returns
returns g c = λ target behind h.
    let f32 : FitsSigned w32 c.line-y.result = search rules in
    let layer = c.args.piece.now.layer.now in
    c.in_ok-paint_spans.ensures target behind
    (painted_same target (layer_over g.S.Shape.holds c.args.window c.args.j behind layer)
    (over (λ k. list_any (is_in_span (column c.args.window k)) c.in_ok-spans.spans.now) layer.brush
    behind) c.args.window.width c.args.strip.now
    (λ k l. layer_row g.S.Shape.holds c.args.window c.args.j behind layer c.line-y.result
    c.in_ok-spans.spans.now c.line-y.ensures (simp to_z-of_z at c.in_ok-spans.ensures) k) h)
