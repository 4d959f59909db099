-- What refuses an import refuses its run, between the last read and the first write.
use Rattle.std.proofs.Common.{ℕ, List}
use Rattle.std.specs.Prelude.{IfSome}
use Rattle.gf_run.specs.declared.studio_error.StudioError.TheVariants as studio
use Rattle.gf_run.specs.RefusedRuns.{IsBetween}
use Rattle.gf_import.specs.declared.import_error.ImportError.{ImportError}
use Rattle.gf_import.specs.declared.import_error.ImportError.TheVariants as import_error
use Rattle.gf_import.specs.ImportRun.{RefusesImport, RefusesImportRun, of_import}

pub run_refused : (fig : List ℕ) (e : ImportError) → RefusesImport fig e → RefusesImportRun fig e
run_refused fig import_error.TooManyFigures f = f
run_refused fig (import_error.Fig line e) f = f
run_refused fig (import_error.Figure line object fault) f = f
run_refused fig (import_error.Run studio.OutOfMemory) f = tt
run_refused fig (import_error.Run (studio.Fig x)) f = absurd f
run_refused fig (import_error.Run (studio.Line m why)) f = absurd f
run_refused fig (import_error.Run (studio.Dropped id fault)) f = absurd f
run_refused fig (import_error.Run (studio.Compile x)) f = absurd f
run_refused fig (import_error.Run (studio.NoObject o)) f = absurd f
run_refused fig (import_error.Run studio.ReadFailed) f = tt
run_refused fig (import_error.Run studio.TooLong) f = tt
run_refused fig (import_error.Run studio.WriteFailed) f = tt

-- an import that is refused has read all, and has written nothing
pub is_between : (fig : List ℕ) (e : ImportError) → RefusesImport fig e
    → IfSome (of_import e) IsBetween
is_between fig import_error.TooManyFigures f = tt
is_between fig (import_error.Fig line e) f = tt
is_between fig (import_error.Figure line object fault) f = tt
is_between fig (import_error.Run studio.OutOfMemory) f = tt
is_between fig (import_error.Run (studio.Fig x)) f = absurd f
is_between fig (import_error.Run (studio.Line m why)) f = absurd f
is_between fig (import_error.Run (studio.Dropped id fault)) f = absurd f
is_between fig (import_error.Run (studio.Compile x)) f = absurd f
is_between fig (import_error.Run (studio.NoObject o)) f = absurd f
is_between fig (import_error.Run studio.ReadFailed) f = absurd f
is_between fig (import_error.Run studio.TooLong) f = absurd f
is_between fig (import_error.Run studio.WriteFailed) f = absurd f
