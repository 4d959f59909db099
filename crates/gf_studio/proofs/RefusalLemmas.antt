-- What has a drawing is not refused for it.
use Rattle.std.proofs.Common.{ℕ, List, length, arith, ap}
use Rattle.gf_shape.specs.declared.any_shape.AnyShape.{AnyShape}
use Rattle.gf_versions.proofs.SameHistoryLemmas.{ranked_alike}
use Rattle.gf_figures.specs.DrawingState.{DrawingState}
use Rattle.gf_drawing.specs.declared.compiling.CompileFault.{CompileFault}
use Rattle.gf_drawing.specs.declared.compiling.CompileFault.TheVariants as compile
use Rattle.gf_drawing.specs.CanonicalDrawing.{colours_of}
use Rattle.gf_replay.proofs.SameLemmas.{one_history}
use Rattle.gf_studio.specs.FigRun.{Draws, RefusesCompiling}

-- what has a drawing is not refused for its versions or colours
pub draws_compile : (bytes : List ℕ) (drawing : DrawingState AnyShape) → Draws bytes drawing
    → (fault : CompileFault) → ¬ (RefusesCompiling bytes fault)
draws_compile bytes drawing d compile.TooManyVersions r =
    let fits = d.such.canonical.fits.versions in
    let why = r.such in
    let many = why.many in
    let same = ranked_alike d.history r.history (one_history bytes d.history r.history d.denoted
    r.denoted) d.such.canonical.items why.items d.such.canonical.ranked why.ranked in
    let equal = ap length same in
    absurd (omega arith)
draws_compile bytes drawing d compile.TooManyColours r =
    let fits = d.such.canonical.fits.colours in
    let why = r.such in
    let many = why.many in
    let same = ranked_alike d.history r.history (one_history bytes d.history r.history d.denoted
    r.denoted) d.such.canonical.items why.items d.such.canonical.ranked why.ranked in
    let equal = ap (λ items. length (colours_of items)) same in
    absurd (omega arith)
draws_compile bytes drawing d compile.OutOfMemory r = r
