use Rattle.std.proofs.Common.{◌≡◌}
use Rattle.std.specs.Prelude.{take}
use Rattle.gf_fig_named.specs.ThinPolygons.{thin_polygons}
use Rattle.gf_fig_named.proofs.polygons.thin_polygons.Given as goal

abbrev pub invariant-loop-item : goal.invariant-loop-item
invariant-loop-item l = l.objects.items ≡ thin_polygons (take l.item-index l.items)
