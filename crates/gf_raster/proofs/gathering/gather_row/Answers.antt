use Rattle.std.proofs.Common.{◌<◌, length, rules}
use Rattle.gf_raster.proofs.PictureLemmas.{cells_pushed}
use Rattle.gf_raster.proofs.SharingLemmas.{column_at}
use Rattle.gf_raster.proofs.gathering.gather_row.Goals as goal

pub loop-pieces-preserved : goal.loop-pieces-preserved
loop-pieces-preserved c = λ colour w j size h.
    let k = c.loop-pieces.pieces-index in
    let within : k < length c.args.columns.now = search rules in
    cells_pushed colour w j size k c.args.bytes.now.items c.loop-pieces.bytes.items _
    c.extend_from_slice.new.self.items
    (c.loop-pieces.invariant colour w j size h)
    (column_at colour w j c.args.i size k c.args.columns.now c.pieces-item.result c.index.result.now
    c.deref.result.now h within c.pieces-item.is (search rules) c.deref.ensures.value)
    c.in_ok-extend_from_slice.ensures.items
