-- What a replica makes of an operation that is offered to it (this project's choice).
use Rattle.gf_ops.specs.declared.op.Op.{Op}
use Rattle.gf_ops.specs.Limits.{IsInRange}
use Rattle.gf_causal.specs.HeldOperations.{Adds, IsClash, IsKnown, IsNew}
use Rattle.gf_site.specs.ReplicaState.{ReplicaState}

-- a keeps the limits, and the replica holds or has another operation under its id
abbrev pub HasOtherThan : ReplicaState → Op → Type 0
HasOtherThan x a = IsInRange a × IsClash x.held x.ops a

-- a keeps the limits, and the replica holds it or has it
abbrev pub HasAlready : ReplicaState → Op → Type 0
HasAlready x a = IsInRange a × IsKnown x.held x.ops a

-- a keeps the limits, and the replica neither holds nor has an operation under its id
abbrev pub IsNewTo : ReplicaState → Op → Type 0
IsNewTo x a = IsInRange a × IsNew x.held x.ops a

-- a is new to the replica, which then holds it beside what it held
abbrev pub ComesToHold : ReplicaState → Op → ReplicaState → Type 0
ComesToHold old a new = IsInRange a × IsNew old.held old.ops a × Adds old.held a new.held
