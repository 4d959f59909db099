-- The version on top at a point, by its name (this project's choice).
use Rattle.std.specs.Prelude.{List, Option, Some, None}
use Rattle.gf_shape.specs.declared.any_shape.AnyShape.{AnyShape}
use Rattle.gf_plane.specs.declared.point.Point.{Point}
use Rattle.gf_ops.specs.declared.op.Op.{Op}
use Rattle.gf_versions.specs.declared.key.Version.{Version}
use Rattle.gf_versions.specs.declared.key.VersionKey.{VersionKey}
use Rattle.gf_versions.specs.declared.placed.Placed.{Placed}
use Rattle.gf_versions.specs.HistoryColour.{IsSeenAt, IsTopAt}
use Rattle.gf_inspect.specs.declared.top.VersionName.{VersionName}

-- the name in a key
abbrev pub named : VersionKey → VersionName
named k = record { object = k.object; ops = k.ops }

-- the name of an item
abbrev pub name_of : Placed AnyShape → VersionName
name_of i = named i.key

-- the name is that of the version on top at p, or no version is seen there
pub data NamesTop (h : List Op) (p : Point) : Option VersionName → Type 0 where
  top : (v : Version) → IsTopAt h p v → NamesTop h p (Some (named v.key))
  blank : ((v : Version) → ¬ (IsSeenAt h p v)) → NamesTop h p None
