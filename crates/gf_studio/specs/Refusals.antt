-- What a list that was not made becomes (this project's choice). No public clause cites this
-- module.
use Rattle.std.specs.Prelude.{Option, Some, None, Result, Ok, Err}
use Rattle.gf_base.specs.declared.memory.OutOfMemory.{OutOfMemory}
use Rattle.gf_drawing.specs.declared.compiling.CompileFault.{CompileFault}
use Rattle.gf_drawing.specs.declared.compiling.CompileFault.TheVariants as compile

-- a list of visible versions that was not made, or that would be longer than a drawing's
abbrev pub of_ranked : {T : Type 0} → Result (Option T) OutOfMemory → Result T CompileFault
of_ranked (Ok (Some ranked)) = Ok ranked
of_ranked (Ok None) = Err compile.TooManyVersions
of_ranked (Err e) = Err compile.OutOfMemory
