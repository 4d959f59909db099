use Rattle.std.proofs.Common.{◌∙◌}
use Rattle.gf_raster.proofs.PictureLemmas.{rows_same}
use Rattle.gf_raster.proofs.painting.paint.Goals as goal

pub returns : goal.returns
returns g c = c.in_ok-bytes.ensures ∙ rows_same _ _ c.in_ok-layers.ensures c.args.window 0
    c.args.window.height
