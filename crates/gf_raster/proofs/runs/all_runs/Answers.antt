use Rattle.std.proofs.Common.{◌≡◌, ◌≤◌, ◌*◌, length, rules, arith}
use Rattle.gf_scanline.specs.Layers.{layered}
use Rattle.gf_raster.specs.Shares.{parts}
use Rattle.gf_raster.proofs.RunLemmas.{runs_of_band}
use Rattle.gf_raster.proofs.runs.all_runs.Goals as goal

pub returns : goal.returns
returns g c =
    let size = 64 * c.div_ceil-size.result in
    let pieces = c.in_ok-pieces.pieces.items in
    let n : length pieces ≡ parts c.args.round.count size = search
    (rules, arith, c.in_ok-pieces.ensures.len) in
    let some : 1 ≤ size = search (rules, arith) in
    runs_of_band (layered g.S.Shape.holds c.args.layers.now) c.args.round size pieces some n
    c.in_ok-pieces.ensures.each
