-- Why a run is refused, whatever it writes (this project's choice).
use Rattle.std.specs.Prelude.{ℕ, List, [], ⊤}
use Rattle.gf_fig_read.specs.FigGrammar.{Fails}
use Rattle.gf_replay.specs.Refusing.{Drops, HasFault}
use Rattle.gf_run.specs.declared.studio_error.StudioError.{StudioError}
use Rattle.gf_run.specs.declared.studio_error.StudioError.TheVariants as studio

-- the bytes of a source did not come
abbrev pub IsOfInput : StudioError → Type 0
IsOfInput studio.ReadFailed = ⊤
IsOfInput studio.TooLong = ⊤
IsOfInput studio.OutOfMemory = ⊤
IsOfInput other = ⊥

-- what may refuse any run, whatever its bytes are: its source, its sink or memory
abbrev pub IsOfRun : StudioError → Type 0
IsOfRun studio.WriteFailed = ⊤
IsOfRun e = IsOfInput e

-- why a run that needs a history is refused
abbrev pub RefusesReading : List ℕ → StudioError → Type 0
RefusesReading bytes (studio.Line n cause) = HasFault [] bytes n cause
RefusesReading bytes (studio.Dropped id fault) = Drops [] bytes id fault
RefusesReading bytes e = IsOfRun e

-- why a run that needs the drawing of a FIG text is refused
abbrev pub RefusesFig : List ℕ → StudioError → Type 0
RefusesFig text (studio.Fig e) = Fails text e.fault e.object
RefusesFig text e = IsOfRun e

-- the error came between the last read and the first write
abbrev pub IsBetween : StudioError → Type 0
IsBetween studio.ReadFailed = ⊥
IsBetween studio.TooLong = ⊥
IsBetween studio.WriteFailed = ⊥
IsBetween other = ⊤
