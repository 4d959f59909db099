use Rattle.std.proofs.Common.{FitsSigned, w32, rules, sym, arith, ◌∙◌, ◌+◌, ◌-◌}
use Rattle.std.proofs.lemmas.Int.{to_z-of_z}
use Rattle.gf_scanline.specs.Windows.{line}
use Rattle.gf_scanline.proofs.PieceLemmas.{beside_columns, line_later, tell_row, unseen_beside}
use Rattle.gf_scanline.proofs.PieceLemmas.{unseen_narrow}
use Rattle.gf_scanline.proofs.piece.piece_of.Goals as goal

pub returns-then-not-reaches-clause-none : goal.returns-then-not-reaches-clause-none
returns-then-not-reaches-clause-none g c = λ is.
    let f : FitsSigned w32 c.line-low.result = search rules in
    let h : FitsSigned w32 c.line-high.result = search rules in
    let e = simp to_z-of_z at c.reaches.ensures in
    let out = sym e ∙ c.if-not-reaches.true in
    unseen_beside g.S.Shape.holds c.args.band c.args.layer.now c.args.layer.now.bounds
    c.requires.bounds (rw (
      c.line-low.ensures,
      c.line-high.ensures,
      c.window-window.ensures.window,
      c.top.ensures.top,
      c.last.ensures.last,
    ) at out)

pub returns-then-columns-clause-none : goal.returns-then-columns-clause-none
returns-then-columns-clause-none g c = λ is. unseen_narrow g.S.Shape.holds c.args.band
    c.args.layer.now c.args.layer.now.bounds c.columns-columns.result c.requires.bounds
    (rw (c.across.ensures, c.window-window.ensures.window) at c.columns-columns.ensures)
    c.if-columns.true

pub returns-clause-some : goal.returns-clause-some
returns-clause-some g c = λ j row.
    let f : FitsSigned w32 c.line-low.result = search rules in
    let h : FitsSigned w32 c.line-high.result = search rules in
    let w = c.args.band.window in
    let held = g.S.Shape.holds c.args.layer.now.shape.now in
    let tells = tell_row held c.in_ok-edges.edges _ _ (line w j)
    (rw (c.line-low.ensures, c.window-window.ensures.window, c.top.ensures.top)
    (line_later w c.args.band.top j row.0))
    (rw (c.line-high.ensures, c.window-window.ensures.window, c.last.ensures.last)
    (line_later w j (c.args.band.top + c.args.band.count - 1) (omega (arith, row.1))))
    (simp to_z-of_z at c.in_ok-edges.ensures) in
    record {
      bounds = c.requires.bounds;
      columns = beside_columns held w j c.reach.result c.columns-columns-2.result
          (λ x t. c.reach.ensures held x (line w j) c.requires.bounds tells t)
          (rw c.window-window.ensures.window at c.columns-columns-2.ensures);
      edges = tells;
    }
