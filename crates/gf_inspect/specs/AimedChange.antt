-- The change that aims at the version on top at a point (this project's choice).
use Rattle.std.specs.Prelude.{◌≡◌, ℕ, List, Option, Some, None}
use Rattle.gf_plane.specs.declared.point.Point.{Point}
use Rattle.gf_ops.specs.declared.op.Op.{Op}
use Rattle.gf_ops.specs.declared.op.Clock.{Clock}
use Rattle.gf_ops.specs.declared.change.Change.{Change}
use Rattle.gf_ops.specs.declared.change.Change.TheVariants.{Set}
use Rattle.gf_ops.specs.declared.change.Value.{Value}
use Rattle.gf_ops.specs.OperationOrder.{IsSite, entry, count_of}
use Rattle.gf_versions.specs.declared.key.Version.{Version}
use Rattle.gf_versions.specs.HistoryColour.{IsSeenAt, IsTopAt}
use Rattle.gf_inspect.specs.declared.top.VersionName.{VersionName}

-- the change sets v on the object of the version on top at p, aimed at that version's ids. There is
-- no change where no version is seen at p
pub data AimsAtTop (h : List Op) (p : Point) (v : Value) : Option Change → Type 0 where
  aimed : (w : Version) → IsTopAt h p w → AimsAtTop h p v (Some (Set w.key.object v w.key.ops))
  nowhere : ((w : Version) → ¬ (IsSeenAt h p w)) → AimsAtTop h p v None

-- the change that sets v, aimed at the version of the name
abbrev pub aimed_change : Value → VersionName → Change
aimed_change v n = Set n.object v n.ops

-- clock c counts what h has, and no more
abbrev pub IsCounts : Clock → List Op → Type 0
IsCounts c h = (s : ℕ) → IsSite s → entry c s ≡ count_of h s
