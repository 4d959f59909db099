use Rattle.std.proofs.Common.{◌≡◌, ◌+◌, ◌++◌, ◌∙◌, ap, rules, arith}
use Rattle.gf_scanline.specs.Bands.{BandView}
use Rattle.gf_scanline.specs.Layers.{layered}
use Rattle.gf_raster.specs.Rows.{bytes_in}
use Rattle.gf_raster.proofs.PictureLemmas.{band_added}
use Rattle.gf_raster.proofs.painting.paint_all.Goals as goal

pub loop-top-preserved : goal.loop-top-preserved
loop-top-preserved g c =
    let colour = layered g.S.Shape.holds c.args.layers.now in
    let band = c.new.result in
    let old = c.loop-top.bytes.items in
    let window = ap (λ (b : BandView). b.window) c.new.ensures in
    let top = ap (λ (b : BandView). b.top) c.new.ensures in
    let count = ap (λ (b : BandView). b.count) c.new.ensures in
    let at : band.top ≡ 0 + c.loop-top.top = omega (arith, top) in
    let added = c.in_ok-add_pieces.ensures
    ∙ ap (λ bytes. old ++ bytes) (ap bytes_in c.deref.ensures.value ∙ c.in_ok-pieces.ensures) in
    record {
      within = search (rules, arith);
      bytes = rw count at (band_added colour c.args.window band 0 c.loop-top.top old
          c.add_pieces.new.bytes.items window at c.loop-top.invariant.bytes added);
    }
