use Rattle.std.proofs.Common.{◌≡◌, ◌<◌, length, rules, arith}
use Rattle.gf_scanline.specs.Layers.{layered}
use Rattle.gf_raster.specs.Shares.{stride}
use Rattle.gf_raster.proofs.ShareLemmas.{columns_shared}
use Rattle.gf_raster.proofs.SharingLemmas.{columns_of}
use Rattle.gf_raster.proofs.sharing.shared_band.Goals as goal

pub returns : goal.returns
returns g c =
    let colour = layered g.S.Shape.holds c.args.layers.now in
    let w = c.args.band.window in
    let workers = c.args.crew.now.workers in
    let strokes = c.in_ok-strokes.strokes.items in
    let columns = c.in_ok-columns.columns.items in
    let shown = rw c.in_ok-part.ensures at c.in_ok-strokes.ensures.rows in
    let many : length strokes ≡ c.args.band.count = search (
      rules,
      arith,
      c.in_ok-part.ensures,
      c.in_ok-strokes.ensures.len,
    ) in
    let all : length columns ≡ workers = search (rules, arith, c.in_ok-columns.ensures.len) in
    (rw (c.deref.ensures.value, c.count.ensures.count) at c.in_ok-bytes.ensures) colour w
    c.args.band.top (stride w workers)
    (λ i l. let there : i < length strokes = omega (arith, l, many) in
    columns_of _ workers colour columns i c.in_ok-columns.ensures.each shown there)
    (rw all (columns_shared w workers c.args.crew.now.within.0))
