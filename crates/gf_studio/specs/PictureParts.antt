-- Which window of a drawing an extent asks for. No public clause cites this module.
use Rattle.std.specs.Prelude.{◌≡◌, Bool}
use Rattle.gf_plane.specs.declared.point.Point.{Point}
use Rattle.gf_scanline.specs.Windows.{View}
use Rattle.gf_fit.specs.FittedWindow.{IsFitted}
use Rattle.gf_studio.specs.declared.painting.Extent.{Extent}
use Rattle.gf_studio.specs.declared.painting.Extent.TheVariants.{Fitted, Window}

-- w is the window that the extent asks for, over the points that are held
abbrev pub IsWindowOver : (Point → Bool) → Extent → View → Type 0
IsWindowOver holds (Window v) w = w ≡ v
IsWindowOver holds (Fitted frame) w = IsFitted holds frame w
