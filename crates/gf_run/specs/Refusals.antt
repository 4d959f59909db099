-- What the errors of a run's parts become (this project's choice).
use Rattle.gf_drawing.specs.declared.compiling.CompileFault.{CompileFault}
use Rattle.gf_drawing.specs.declared.compiling.CompileFault.TheVariants as compile
use Rattle.gf_streams.specs.declared.write_error.WriteError.{WriteError}
use Rattle.gf_streams.specs.declared.write_error.WriteError.TheVariants as write
use Rattle.gf_streams.specs.declared.source.InputError.{InputError}
use Rattle.gf_streams.specs.declared.source.InputError.TheVariants as input
use Rattle.gf_replay.specs.declared.reading_error.ReadingError.{ReadingError}
use Rattle.gf_replay.specs.declared.reading_error.ReadingError.TheVariants as reading
use Rattle.gf_fig_read.specs.declared.faults.FigError.{FigError}
use Rattle.gf_fig_tokens.specs.declared.faults.FigFault.{FigFault}
use Rattle.gf_fig_tokens.specs.declared.faults.FigFault.TheVariants as fig
use Rattle.gf_run.specs.declared.studio_error.StudioError.{StudioError}
use Rattle.gf_run.specs.declared.studio_error.StudioError.TheVariants as studio

-- an input that was not read
abbrev pub of_input : InputError → StudioError
of_input input.ReadFailed = studio.ReadFailed
of_input input.TooLong = studio.TooLong
of_input input.OutOfMemory = studio.OutOfMemory

-- lines that are no history
abbrev pub of_reading : ReadingError → StudioError
of_reading (reading.Line n why) = studio.Line n why
of_reading (reading.Dropped id fault) = studio.Dropped id fault
of_reading reading.OutOfMemory = studio.OutOfMemory

-- a history with no drawing
abbrev pub of_compile : CompileFault → StudioError
of_compile compile.TooManyVersions = studio.Compile compile.TooManyVersions
of_compile compile.TooManyColours = studio.Compile compile.TooManyColours
of_compile compile.OutOfMemory = studio.OutOfMemory

-- a drawing that was not written
abbrev pub of_write : WriteError → StudioError
of_write write.OutOfMemory = studio.OutOfMemory
of_write write.WriteFailed = studio.WriteFailed

-- a text that was not read, for this fault
abbrev pub of_fault : FigFault → FigError → StudioError
of_fault fig.OutOfMemory e = studio.OutOfMemory
of_fault fault e = studio.Fig e

-- a text that was not read
abbrev pub of_fig : FigError → StudioError
of_fig e = of_fault e.fault e
