-- Why a run that draws or answers a query is refused (this project's choice).
use Rattle.std.specs.Prelude.{◌≡◌, ℕ, List}
use Rattle.gf_run.specs.declared.studio_error.StudioError.{StudioError}
use Rattle.gf_run.specs.declared.studio_error.StudioError.TheVariants as studio
use Rattle.gf_run.specs.RefusedRuns.{RefusesReading}
use Rattle.gf_studio.specs.declared.inspecting.Query.{Query}
use Rattle.gf_studio.specs.declared.inspecting.Query.TheVariants as asked
use Rattle.gf_studio.specs.FigRun.{DenotesSuch, RefusesCompiling}
use Rattle.gf_studio.specs.InspectRun.{IsMissing}

-- why a run that needs the drawing of a history is refused
abbrev pub RefusesLines : List ℕ → StudioError → Type 0
RefusesLines bytes (studio.Compile fault) = RefusesCompiling bytes fault
RefusesLines bytes e = RefusesReading bytes e

-- why a run that answers a query about a history is refused
abbrev pub RefusesAnswer : Query → List ℕ → StudioError → Type 0
RefusesAnswer query bytes (studio.NoObject o) = (query ≡ asked.Object o)
    × DenotesSuch bytes (λ h. IsMissing h o)
RefusesAnswer query bytes e = RefusesReading bytes e
