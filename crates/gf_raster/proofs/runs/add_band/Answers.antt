use Rattle.std.proofs.Common.{◌≡◌, ◌+◌, ◌≤◌, ◌∙◌, ap, subst, sym, arith}
use Rattle.gf_scanline.specs.Layers.{layered}
use Rattle.gf_scanline.specs.Picture.{ShowsRow}
use Rattle.gf_scanline.specs.Windows.{sample}
use Rattle.gf_raster.specs.Passes.{PassView}
use Rattle.gf_raster.proofs.PictureLemmas.{rows_pushed}
use Rattle.gf_raster.proofs.runs.add_band.Goals as goal

pub loop-i-preserved : goal.loop-i-preserved
loop-i-preserved g c =
    let colour = layered g.S.Shape.holds c.args.layers.now in
    let w = c.args.band.window in
    let top = c.args.band.top in
    let i = c.loop-i.i in
    let found = rw (c.in_ok-part.ensures, c.top.ensures.top) at c.in_ok-strokes.ensures in
    let shown = subst (ShowsRow colour w (top + i)) (sym c.deref.ensures.value) found in
    let from : c.from.result ≡ 0 = c.from.ensures
    ∙ ap (λ (p : PassView). p.from) c.through-pass.ensures in
    let len : c.len.result ≡ w.width = c.len.ensures
    ∙ (ap (λ (p : PassView). p.len) c.through-pass.ensures
    ∙ (c.width.ensures.width ∙ ap (λ v. v.width) c.window.ensures.window)) in
    let fits : c.from.result + c.len.result ≤ w.width = omega (arith, from, len) in
    rows_pushed colour w top i c.args.bytes.now.items c.loop-i.bytes.items c.fill.new.bytes.items
    c.loop-i.invariant (rw (from, len) at (c.in_ok-fill.ensures (λ k. colour (sample w k (top + i)))
    w.width shown fits))
