use Rattle.std.proofs.Common.{suc, ◌≡◌, ◌<◌, ◌++◌, ◌∙◌, Global, Vec, ℕ, ap, sym, drop, take, length}
use Rattle.std.proofs.Common.{slice_index_or, rules, arith}
use Rattle.std.proofs.lemmas.Result.{err_from_is_err_and}
use Rattle.gf_raster.specs.Rows.{bytes_in}
use Rattle.gf_raster.proofs.PictureLemmas.{front_more, pieces_parted}
use Rattle.gf_raster.proofs.ppm.write_pieces.Goals as goal

pub returns-in_err-write_all-clause-prefix : goal.returns-in_err-write_all-clause-prefix
returns-in_err-write_all-clause-prefix g c =
    let pieces = c.args.pieces.now in
    let i = c.loop-piece.piece-index in
    let piece = c.piece-item.result in
    let rest = bytes_in (drop (suc i) pieces) in
    let l : i < length pieces = search rules in
    let item : c.deref.result.now ≡ (slice_index_or pieces i piece).items = c.deref.ensures.value
    ∙ ap (λ (v : Vec ℕ Global). v.items) c.piece-item.is in
    let parted = pieces_parted pieces i piece l
    ∙ ap (λ bytes. bytes_in (take i pieces) ++ (bytes ++ rest)) (sym item) in
    let part = c.in_err-write_all.ensures.err in
    let fewer = part.fewer in
    let p = err_from_is_err_and c.from_residual.result c.from_residual.ensures.1 in
    rw p.1 (front_more (g.W.Sink.taken c.args.sink.now) (g.W.Sink.taken c.loop-piece.sink)
    (g.W.Sink.taken c.write_all.new.sink)
    (bytes_in (take i pieces)) c.deref.result.now (bytes_in pieces) rest parted
    c.loop-piece.invariant.wrote (part.count, omega (arith, fewer), part.grows))
