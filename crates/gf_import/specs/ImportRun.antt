-- What an import writes, and why it is refused (this project's choice).
use Rattle.std.specs.Prelude.{◌≡◌, ℕ, List, Option, None, Some, ⊤}
use Rattle.gf_fig_read.specs.FaultLines.{BeginsOn, IsFaultLine}
use Rattle.gf_fig_read.specs.FigGrammar.{Fails, Reads}
use Rattle.gf_fig_read.specs.Objects.{Drawn}
use Rattle.gf_run.specs.declared.studio_error.StudioError.{StudioError}
use Rattle.gf_run.specs.declared.studio_error.StudioError.TheVariants as studio
use Rattle.gf_run.specs.RefusedRuns.{IsOfRun}
use Rattle.gf_run.specs.RunAnswers.{WritesText}
use Rattle.gf_import.specs.declared.creation_error.CreationError.{CreationError}
use Rattle.gf_import.specs.declared.creation_error.CreationError.TheVariants as creation
use Rattle.gf_import.specs.declared.import_error.ImportError.{ImportError}
use Rattle.gf_import.specs.declared.import_error.ImportError.TheVariants as import_error
use Rattle.gf_import.specs.CommandLines.{DenotesChanges, command_lines}
use Rattle.gf_import.specs.CreationFaults.{RefusesCreations}
use Rattle.gf_import.specs.Imported.{IsImportable}
use Rattle.gf_import.specs.Importing.{creations_of}

-- the FIG text reads as a drawing that can be imported. The other text has the lines of the
-- commands of site s to make its creations, and denotes these
pub record Imports (s : ℕ) (fig text : List ℕ) : Type 0 where
  pub drawing : Drawn
  pub reads : Reads fig drawing
  pub importable : IsImportable drawing
  pub is : text ≡ command_lines s (creations_of drawing)
  pub denotes : DenotesChanges s text (creations_of drawing)

-- known bytes grow from old to new by the lines of an import
abbrev pub WritesImport : ℕ → List ℕ → Option (List ℕ) → Option (List ℕ) → Type 0
WritesImport s fig old new = WritesText (Imports s fig) old new

-- the FIG text reads as a drawing that has no creations for this reason
pub record HasNoCreations (fig : List ℕ) (e : CreationError) : Type 0 where
  pub drawing : Drawn
  pub reads : Reads fig drawing
  pub refused : RefusesCreations drawing e

-- why this FIG text is not imported; want of memory may come with any
abbrev pub RefusesImport : List ℕ → ImportError → Type 0
RefusesImport fig (import_error.Fig line e) =
    Fails fig e.fault e.object × IsFaultLine fig e line
RefusesImport fig import_error.TooManyFigures = HasNoCreations fig creation.TooManyFigures
RefusesImport fig (import_error.Figure line object fault) =
    HasNoCreations fig (creation.Figure object fault) × BeginsOn fig object line
RefusesImport fig (import_error.Run studio.OutOfMemory) = ⊤
RefusesImport fig other = ⊥

-- why an importing run is refused
abbrev pub RefusesImportRun : List ℕ → ImportError → Type 0
RefusesImportRun fig (import_error.Run e) = IsOfRun e
RefusesImportRun fig e = RefusesImport fig e

-- the error of an import that other runs may have too
abbrev pub of_import : ImportError → Option StudioError
of_import (import_error.Run e) = Some e
of_import other = None
