use Rattle.std.proofs.Common.{◌≡◌, ◌+◌, ◌<◌, ◌≤◌, ◌∙◌, ap, sym, subst, Err, rules, arith}
use Rattle.std.proofs.lemmas.Result.{err_from_is_err_and}
use Rattle.std.specs.Io.KnownBytes.{Appends}
use Rattle.gf_streams.specs.Taken.{AppendsPrefix}
use Rattle.gf_streams.specs.declared.write_error.WriteError.{WriteError}
use Rattle.gf_scanline.specs.Bands.{BandView}
use Rattle.gf_scanline.specs.Layers.{layered}
use Rattle.gf_scanline.specs.Picture.{raster}
use Rattle.gf_raster.specs.Rows.{bytes_of}
use Rattle.gf_raster.proofs.PictureLemmas.{front_more, rows_parted, rows_written, whole_more}
use Rattle.gf_raster.proofs.ppm.write_rows.Goals as goal

pub loop-top-preserved : goal.loop-top-preserved
loop-top-preserved g c =
    let colour = layered g.S.Shape.holds c.args.layers.now in
    let w = c.args.window in
    let top = c.loop-top.top in
    let rows = c.rows_of_round-rows.result in
    let count = c.min-count.result in
    let old = g.W.Sink.taken c.loop-top.sink in
    let new = g.W.Sink.taken c.write_round.new.sink in
    let above : top < w.height = search (rules, arith) in
    let wrote = subst (λ (b : BandView). Appends old new (bytes_of colour b)) c.new.ensures
    c.in_ok-write_round.ensures.whole in
    record {
      within = search (rules, arith);
      whole = λ l.
          let all : count ≡ rows = search (rules, arith, l) in
          rw all (whole_more top rows (c.loop-top.invariant.whole above)
          c.rows_of_round-rows.ensures.whole);
      wrote = rows_written colour w top count (g.W.Sink.taken c.args.sink.now) old new
          c.loop-top.invariant.wrote wrote;
      unfailed = c.in_ok-write_round.ensures.unfailed ∙ c.loop-top.invariant.unfailed;
    }

pub returns-in_err-write_round-clause-memory : goal.returns-in_err-write_round-clause-memory
returns-in_err-write_round-clause-memory g c = λ e.
    let p = err_from_is_err_and c.from_residual.result c.from_residual.ensures.1 in
    let same : c.in_err-write_round.field-0.0 ≡ WriteError.OutOfMemory = let q = sym p.1 ∙ e in
    cc in
    let kept = c.in_err-write_round.ensures.memory (ap Err same) in
    let above : c.loop-top.top < c.args.window.height = search (rules, arith) in
    let whole = c.loop-top.invariant.whole above in
    let are = whole.are in
    record {
      bands = whole.bands;
      fewer = omega (arith, are, above);
      grows = rw kept (rw are at c.loop-top.invariant.wrote);
    }

pub returns-in_err-write_round-clause-prefix : goal.returns-in_err-write_round-clause-prefix
returns-in_err-write_round-clause-prefix g c = λ e.
    let p = err_from_is_err_and c.from_residual.result c.from_residual.ensures.1 in
    let same : c.in_err-write_round.field-0.0 ≡ WriteError.WriteFailed = let q = sym p.1 ∙ e in
    cc in
    let colour = layered g.S.Shape.holds c.args.layers.now in
    let w = c.args.window in
    let top = c.loop-top.top in
    let count = c.min-count.result in
    let old = g.W.Sink.taken c.loop-top.sink in
    let new = g.W.Sink.taken c.write_round.new.sink in
    let within : top + count ≤ w.height = search (rules, arith) in
    let front = subst (λ (b : BandView). AppendsPrefix old new (bytes_of colour b)) c.new.ensures
    (c.in_err-write_round.ensures.prefix (ap Err same)) in
    front_more (g.W.Sink.taken c.args.sink.now) old new _ _ (raster colour w) _
    (rows_parted colour w w.height top count within) c.loop-top.invariant.wrote front
