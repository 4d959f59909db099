-- Which operation may be added behind a history (this project's choice).
use Rattle.std.specs.Prelude.{◌≡◌, ℕ, ◌+◌, ◌≤◌, List, [], ◌∷◌, ◌++◌}
use Rattle.std.specs.Prelude.{Contains}
use Rattle.gf_ops.specs.declared.op.Op.{Op}
use Rattle.gf_ops.specs.declared.op.Clock.{Clock}
use Rattle.gf_ops.specs.declared.faults.OpFault.{OpFault}
use Rattle.gf_ops.specs.declared.faults.OpFault.TheVariants as fault
use Rattle.gf_ops.specs.Aims.{IsAimed}
use Rattle.gf_ops.specs.KnownObject.{IsFounded, IsSuited}
use Rattle.gf_ops.specs.OperationOrder.{IsSite, entry, count_of, Precedes}
use Rattle.gf_ops.specs.ValidHistory.{IsWithin}

-- clock c counts no operation that h lacks
abbrev pub CountsAtMost : Clock → List Op → Type 0
CountsAtMost c h = (s : ℕ) → IsSite s → entry c s ≤ count_of h s

-- a has the next number of its site behind h, and knows all of its site before it
pub record IsNumbered (h : List Op) (a : Op) : Type 0 where
  pub seq : a.id.seq ≡ count_of h a.id.site + 1
  pub own : entry a.past a.id.site + 1 ≡ a.id.seq

-- a knows all that the operations of h that it knows knew
abbrev pub IsCausallyClosed : List Op → Op → Type 0
IsCausallyClosed h a = (b : Op) → Contains h b → Precedes b a → IsWithin b.past a.past

-- a is the next operation of its site behind h: it has the next number. It knows no more than h
-- has, and all that the operations that it knows knew
pub record IsNext (h : List Op) (a : Op) : Type 0 where
  pub numbered : IsNumbered h a
  pub known : CountsAtMost a.past h
  pub closed : IsCausallyClosed h a

-- a may be added behind h: it is the next operation of its site, and its aim is valid. It makes an
-- object, or gives an object that it knows a value that suits the object
pub record IsAccepted (h : List Op) (a : Op) : Type 0 where
  pub next : IsNext h a
  pub suited : IsSuited h a a.change
  pub aimed : IsAimed h a

-- a may not be added behind h, and this is the first of its faults
abbrev pub IsRefused : List Op → Op → OpFault → Type 0
IsRefused h a fault.BadClock = ¬ (IsNext h a)
IsRefused h a fault.NoObject = IsNext h a × (¬ (IsFounded h a a.change))
IsRefused h a fault.WrongKind = IsNext h a × IsFounded h a a.change × (¬ (IsSuited h a a.change))
IsRefused h a fault.BadAim = IsNext h a × IsSuited h a a.change × (¬ (IsAimed h a))

-- operations each of which was accepted behind those before it
pub data AreAccepted : List Op → Type 0 where
  none : AreAccepted []
  next : {h : List Op} {a : Op} → AreAccepted h → IsAccepted h a → AreAccepted (h ++ a ∷ [])
