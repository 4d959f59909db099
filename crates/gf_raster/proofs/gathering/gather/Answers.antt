use Rattle.std.proofs.Common.{◌+◌, []}
use Rattle.gf_raster.proofs.PictureLemmas.{rows_pushed}
use Rattle.gf_raster.proofs.gathering.gather.Goals as goal

pub loop-i-preserved : goal.loop-i-preserved
loop-i-preserved c = λ colour w top size h e.
    let i = c.loop-i.i in
    rows_pushed colour w top i [] c.loop-i.bytes.items c.gather_row.new.bytes.items
    (c.loop-i.invariant colour w top size h e)
    (rw e at (c.in_ok-gather_row.ensures colour w (top + i) size (h i c.loop-i-test.true)))
