-- Why no version of an object is kept (this project's choice).
use Rattle.std.specs.Prelude.{List, ⊤}
use Rattle.gf_ops.specs.declared.op.Op.{Op}
use Rattle.gf_groups.specs.declared.group.Group.{Group}
use Rattle.gf_groups.specs.Versions.{IsMade}
use Rattle.gf_versions.specs.declared.ranking.TheConstants.{MOST_VERSIONS}
use Rattle.gf_visible.specs.ShownVersions.{HasMoreOn}
use Rattle.gf_keep.specs.declared.faults.KeepFault.{KeepFault}
use Rattle.gf_keep.specs.declared.faults.KeepFault.TheVariants as fault
use Rattle.gf_keep.specs.declared.keep.Keep.{Keep}
use Rattle.gf_keep.specs.Keeping.{IsKept}

-- the object is there, has at most 1,000 visible versions, and no version of it is kept
pub record HasNoneKept (h : List Op) (k : Keep) : Type 0 where
  pub made : IsMade h k.object
  pub few : ¬ (HasMoreOn h k.object MOST_VERSIONS)
  pub none : (g : Group) → ¬ (IsKept h k g)

-- why the keep k is refused behind h; want of memory may come with any
abbrev pub RefusesKeep : List Op → Keep → KeepFault → Type 0
RefusesKeep h k fault.NoObject = ¬ (IsMade h k.object)
RefusesKeep h k fault.Range = HasMoreOn h k.object MOST_VERSIONS
RefusesKeep h k fault.NoVersion = HasNoneKept h k
RefusesKeep h k fault.OutOfMemory = ⊤
