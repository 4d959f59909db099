use Rattle.std.proofs.Common.{◌≡◌, All, map, take}
use Rattle.gf_scanline.specs.Layers.{IsLayer}
use Rattle.gf_scanline.specs.Seen.{seen, seen_figure}
use Rattle.gf_scanline.proofs.layers.layers_of.Given as goal

abbrev pub invariant-loop-figure : goal.invariant-loop-figure
invariant-loop-figure g l = record {
  seen : map seen l.layers.items ≡ map (λ f. seen_figure l.drawing.table f.now)
      (take l.figure-index l.figures);
  layers : All (IsLayer g.S.Shape.holds) l.layers.items;
}
