use Rattle.std.proofs.Common.{◌≡◌, ◌+◌, ◌∙◌, ap, rules, arith}
use Rattle.gf_scanline.specs.Bands.{BandView}
use Rattle.gf_scanline.specs.Layers.{layered}
use Rattle.gf_raster.proofs.PictureLemmas.{band_added}
use Rattle.gf_raster.proofs.runs.run.Goals as goal

pub loop-done-preserved : goal.loop-done-preserved
loop-done-preserved g c =
    let colour = layered g.S.Shape.holds c.args.layers.now in
    let w = c.args.round.window in
    let start = c.min-start.result in
    let done = c.loop-done.done in
    let window : c.new-band.result.window ≡ w = ap (λ (b : BandView). b.window) c.new-band.ensures
    ∙ c.window-window.ensures.window in
    let at : c.new-band.result.top ≡ c.args.round.top + start + done = ap (λ (b : BandView). b.top)
    c.new-band.ensures ∙ ap (λ t. t + start + done) c.top.ensures.top in
    let count : c.count-done.result ≡ c.min.result = c.count-done.ensures.count
    ∙ ap (λ (b : BandView). b.count) c.new-band.ensures in
    record {
      within = search (rules, arith, count);
      bytes = rw c.count-done.ensures.count
          (band_added colour w c.new-band.result (c.args.round.top + start) done
          c.loop-done.bytes.items c.add_band.new.bytes.items window at c.loop-done.invariant.bytes
          c.in_ok-add_band.ensures);
    }
