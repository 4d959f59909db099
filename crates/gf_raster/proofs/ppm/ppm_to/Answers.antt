use Rattle.std.proofs.Common.{◌≡◌, ◌<◌, ◌*◌, ◌++◌, ◌∙◌, ap, sym, refl, Err, [], inr, append-nil}
use Rattle.std.proofs.Common.{length, arith}
use Rattle.std.proofs.KnownBytes.{Appends-trans, Appends-kept}
use Rattle.std.proofs.lemmas.Result.{err_from_is_err_and}
use Rattle.gf_streams.proofs.TakenLemmas.{appends_prefix}
use Rattle.gf_streams.specs.declared.write_error.WriteError.{WriteError}
use Rattle.gf_figures.specs.DrawingColour.{drawing_colour}
use Rattle.gf_scanline.specs.Layers.{layered}
use Rattle.gf_scanline.specs.Picture.{header, picture, raster, rows}
use Rattle.gf_raster.proofs.PictureLemmas.{front_first, front_more, rows_same}
use Rattle.gf_raster.proofs.ppm.ppm_to.Goals as goal

pub returns-clause-whole : goal.returns-clause-whole
returns-clause-whole g c =
    let w = c.args.window in
    let colour = drawing_colour g.S.Shape.holds c.args.drawing.now.table c.args.drawing.now.figures
    in
    let same : raster (layered g.S.Shape.holds c.in-Ok.layers) w ≡ raster colour w = rows_same _ _
    c.in-Ok.ensures w 0 w.height in
    let head : c.deref.result.now ≡ header w = c.deref.ensures.value ∙ c.in_ok-header.ensures in
    let old = g.W.Sink.taken c.args.sink.now in
    let mid = g.W.Sink.taken c.write_all.new.sink in
    let all = g.W.Sink.taken c.write_rows.new.sink in
    Appends-kept old all (g.W.Sink.taken c.flush.new.self) (picture colour w)
    (Appends-trans old mid all (header w) (raster colour w)
    (rw head at c.in_ok-write_all.ensures.ok) (rw same at c.in_ok-write_rows.ensures.whole))
    c.flush.ensures.keeps

pub returns-in_err-write_all-clause-prefix : goal.returns-in_err-write_all-clause-prefix
returns-in_err-write_all-clause-prefix g c = λ e.
    let w = c.args.window in
    let colour = drawing_colour g.S.Shape.holds c.args.drawing.now.table c.args.drawing.now.figures
    in
    let head : c.deref.result.now ≡ header w = c.deref.ensures.value ∙ c.in_ok-header.ensures in
    let part = c.in_err-write_all.ensures.err in
    let fewer : part.count < length (header w) = rw head at part.fewer in
    front_first _ _ (header w) (picture colour w) (raster colour w) refl (
      part.count,
      omega (arith, fewer),
      rw head at part.grows,
    )

pub returns-in_err-write_rows-clause-memory : goal.returns-in_err-write_rows-clause-memory
returns-in_err-write_rows-clause-memory g c = λ e.
    let w = c.args.window in
    let colour = drawing_colour g.S.Shape.holds c.args.drawing.now.table c.args.drawing.now.figures
    in
    let head : c.deref.result.now ≡ header w = c.deref.ensures.value ∙ c.in_ok-header.ensures in
    let p = err_from_is_err_and c.from_residual-in_err-write_rows.result
    c.from_residual-in_err-write_rows.ensures.1 in
    let same : c.in_err-write_rows.field-0.0 ≡ WriteError.OutOfMemory = let q = sym p.1 ∙ e in cc in
    let bands = c.in_err-write_rows.ensures.memory (ap Err same) in
    let rows_are = rows_same _ _ c.in-Ok.ensures w 0 (64 * bands.bands) in
    inr (record {
      bands = bands.bands;
      fewer = bands.fewer;
      grows = Appends-trans (g.W.Sink.taken c.args.sink.now) (g.W.Sink.taken c.write_all.new.sink)
          (g.W.Sink.taken c.write_rows.new.sink) (header w) (rows colour w 0 (64 * bands.bands))
          (rw head at c.in_ok-write_all.ensures.ok) (rw rows_are at bands.grows);
    })

pub returns-in_err-write_rows-clause-prefix : goal.returns-in_err-write_rows-clause-prefix
returns-in_err-write_rows-clause-prefix g c = λ e.
    let w = c.args.window in
    let colour = drawing_colour g.S.Shape.holds c.args.drawing.now.table c.args.drawing.now.figures
    in
    let all : raster (layered g.S.Shape.holds c.in-Ok.layers) w ≡ raster colour w = rows_same _ _
    c.in-Ok.ensures w 0 w.height in
    let head : c.deref.result.now ≡ header w = c.deref.ensures.value ∙ c.in_ok-header.ensures in
    let p = err_from_is_err_and c.from_residual-in_err-write_rows.result
    c.from_residual-in_err-write_rows.ensures.1 in
    let same : c.in_err-write_rows.field-0.0 ≡ WriteError.WriteFailed = let q = sym p.1 ∙ e in cc in
    let front = c.in_err-write_rows.ensures.prefix (ap Err same) in
    front_more (g.W.Sink.taken c.args.sink.now) (g.W.Sink.taken c.write_all.new.sink)
    (g.W.Sink.taken c.write_rows.new.sink) (header w) (raster colour w) (picture colour w) []
    (ap (λ bytes. header w ++ bytes) (sym (append-nil (raster colour w))))
    (rw head at c.in_ok-write_all.ensures.ok) (rw all at front)

pub returns-in_err-flush-clause-prefix : goal.returns-in_err-flush-clause-prefix
returns-in_err-flush-clause-prefix g c = λ e.
    let w = c.args.window in
    let colour = drawing_colour g.S.Shape.holds c.args.drawing.now.table c.args.drawing.now.figures
    in
    let same : raster (layered g.S.Shape.holds c.in-Ok.layers) w ≡ raster colour w = rows_same _ _
    c.in-Ok.ensures w 0 w.height in
    let head : c.deref.result.now ≡ header w = c.deref.ensures.value ∙ c.in_ok-header.ensures in
    let old = g.W.Sink.taken c.args.sink.now in
    let mid = g.W.Sink.taken c.write_all.new.sink in
    let all = g.W.Sink.taken c.write_rows.new.sink in
    appends_prefix old all (g.W.Sink.taken c.flush.new.self) (picture colour w)
    (Appends-trans old mid all (header w) (raster colour w)
    (rw head at c.in_ok-write_all.ensures.ok) (rw same at c.in_ok-write_rows.ensures.whole))
    c.flush.ensures.keeps
