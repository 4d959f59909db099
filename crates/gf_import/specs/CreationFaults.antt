-- Which figure is the first that no operation can make, and why (this project's choice).
use Rattle.std.specs.Prelude.{◌≡◌, ℕ, ◌+◌, ◌<◌, ◌≤◌, List, ◌∷◌, ◌++◌, length, All}
use Rattle.std.specs.Prelude.{Option, None, Some, Result, Ok, Err, ⊤}
use Rattle.gf_shape.specs.declared.outline.Outline.{Outline}
use Rattle.gf_ops.specs.declared.change.Change.{Change}
use Rattle.gf_figures.specs.declared.figure.Figure.{Figure}
use Rattle.gf_figures.specs.Colours.{Table}
use Rattle.gf_figures.specs.DrawingState.{DrawingState}
use Rattle.gf_objects.specs.StartFaults.{figure_fault}
use Rattle.gf_objects.specs.declared.figure_fault.FigureFault.{FigureFault}
use Rattle.gf_import.specs.Importing.{creation_of}
use Rattle.gf_import.specs.declared.creation_error.CreationError.{CreationError}
use Rattle.gf_import.specs.declared.creation_error.CreationError.TheVariants as error

-- the creation, unless there is a fault
abbrev pub or_fault : Option FigureFault → Change → Result Change FigureFault
or_fault None c = Ok c
or_fault (Some f) c = Err f

-- the creation of the figure f, or the first limit that it breaks
abbrev pub made : Table → Figure Outline → Result Change FigureFault
made table f = or_fault (figure_fault table f) (creation_of table f)

-- what the FIG object of this number becomes is the first that breaks a limit. The fault is the
-- first limit that it breaks. Objects are counted from 1 with the colours
pub record IsFirstFault (d : DrawingState Outline) (object : ℕ) (fault : FigureFault) : Type 0 where
  pub before : List (Figure Outline)
  pub figure : Figure Outline
  pub after : List (Figure Outline)
  pub whole : d.figures ≡ before ++ figure ∷ after
  pub sound : All (λ (f : Figure Outline). figure_fault d.table f ≡ None) before
  pub broken : figure_fault d.table figure ≡ Some fault
  pub number : object ≡ length d.table + length before + 1

-- why there are no creations of d; want of memory may come with any d
abbrev pub RefusesCreations : DrawingState Outline → CreationError → Type 0
RefusesCreations d error.TooManyFigures = 10000 < length d.figures
RefusesCreations d (error.Figure object fault) =
    (length d.figures ≤ 10000) × IsFirstFault d object fault
RefusesCreations d error.OutOfMemory = ⊤
