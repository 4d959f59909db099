use Rattle.std.proofs.Common.{◌≡◌, ◌+◌, ◌-◌, ◌*◌, ◌≤◌, ◌<◌, ◌/◌, ◌%◌, ◌∙◌, min, length, rules}
use Rattle.std.proofs.Common.{arith}
use Rattle.gf_raster.specs.Shares.{cut, run, stride}
use Rattle.gf_raster.proofs.PictureLemmas.{begins, ends}
use Rattle.gf_raster.proofs.RowLemmas.{pieces_more}
use Rattle.gf_raster.proofs.tiles.pieces.Goals as goal

pub loop-i-preserved : goal.loop-i-preserved
loop-i-preserved g c =
    let w = c.args.shown.now.band.window in
    let i = c.loop-i.i in
    let start = c.min-start.result in
    let len = c.min-len.result in
    let l : i < len / 64 + min 1 (len % 64) = search rules in
    let first = begins len i l in
    let same : length c.fill_tile.new.pieces.items ≡ length c.loop-i.pieces.items = search
    (rules, arith, c.in_ok-fill_tile.ensures.len) in
    let count : c.min.result ≡ min 64 (len - 64 * i) = c.min.ensures in
    let fits : start + 64 * i + c.min.result ≤ w.width = search (rules, arith, first, count) in
    let filled = rw c.through-pass.ensures at c.in_ok-fill_tile.ensures.pieces in
    record {
      count = same ∙ c.loop-i.invariant.count;
      filled = λ colour h.
          pieces_more colour w c.args.shown.now.band.top start len i c.loop-i.pieces.items
          c.fill_tile.new.pieces.items (omega (arith, first)) same
          (c.loop-i.invariant.filled colour h)
          (rw count at (filled colour w c.args.shown.now.band.top fits
          (rw c.deref.ensures.value h)));
    }

pub returns : goal.returns
returns g c =
    let w = c.args.shown.now.band.window in
    let size = stride w c.args.crew.now.workers in
    let len = c.min-len.result in
    let l : len / 64 + min 1 (len % 64) ≤ c.loop-i.i = search (rules, arith) in
    let whole = ends len c.loop-i.i l in
    let from : c.min-start.result ≡ cut w.width size c.args.k = search (rules, arith) in
    let many : len ≡ run w.width size c.args.k = search (rules, arith) in
    record {
      lines = c.loop-i.invariant.count;
      filled = λ colour h. rw (whole, from, many) at (c.loop-i.invariant.filled colour h);
    }
