-- The colour that a history means at a point (this project's choice; white where nothing is).
use Rattle.std.specs.Prelude.{◌≡◌, List, IsTrue}
use Rattle.gf_plane.specs.declared.point.Point.{Point}
use Rattle.gf_plane.specs.declared.colour.Rgb.{Rgb}
use Rattle.gf_plane.specs.White.{white}
use Rattle.gf_ops.specs.declared.op.Op.{Op}
use Rattle.gf_versions.specs.declared.key.Version.{Version}
use Rattle.gf_versions.specs.Above.{IsAbove}
use Rattle.gf_versions.specs.Visible.{IsVisible, version_holds}

-- v is visible and holds p
pub record IsSeenAt (h : List Op) (p : Point) (v : Version) : Type 0 where
  pub visible : IsVisible h v
  pub holds : IsTrue (version_holds v p)

-- v is seen at p, and no other version seen there is above it
pub record IsTopAt (h : List Op) (p : Point) (v : Version) : Type 0 where
  pub seen : IsSeenAt h p v
  pub top : (w : Version) → IsSeenAt h p w → ¬ (IsAbove w.key v.key)

-- the colour of h at p is that of the top version there, or white where none is seen
pub data HistoryColour (h : List Op) (p : Point) : Rgb → Type 0 where
  top : (v : Version) → IsTopAt h p v → HistoryColour h p v.colour
  blank : ((v : Version) → ¬ (IsSeenAt h p v)) → HistoryColour h p white

-- h means exactly one colour at p
pub record HasOneColour (h : List Op) (p : Point) : Type 0 where
  pub colour : Rgb
  pub meant : HistoryColour h p colour
  pub only : (c : Rgb) → HistoryColour h p c → c ≡ colour
