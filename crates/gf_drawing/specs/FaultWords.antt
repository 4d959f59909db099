-- The words for why versions have no drawing (this project's choice).
use Rattle.std.specs.Prelude.{ℕ, List, codes}
use Rattle.gf_drawing.specs.declared.compiling.CompileFault.{CompileFault}
use Rattle.gf_drawing.specs.declared.compiling.CompileFault.TheVariants as fault

-- the word for why versions have no drawing
abbrev pub fault_word : CompileFault → List ℕ
fault_word fault.TooManyVersions = codes "TooManyVersions"
fault_word fault.TooManyColours = codes "TooManyColours"
fault_word fault.OutOfMemory = codes "out of memory"
