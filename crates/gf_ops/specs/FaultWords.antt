-- The words for the faults of operations (this project's choice).
use Rattle.std.specs.Prelude.{ℕ, List, codes}
use Rattle.gf_ops.specs.declared.faults.OpFault.{OpFault}
use Rattle.gf_ops.specs.declared.faults.OpFault.TheVariants as fault

-- the word for an operation's fault
abbrev pub fault_word : OpFault → List ℕ
fault_word fault.BadClock = codes "BadClock"
fault_word fault.NoObject = codes "NoObject"
fault_word fault.WrongKind = codes "WrongKind"
fault_word fault.BadAim = codes "BadAim"
