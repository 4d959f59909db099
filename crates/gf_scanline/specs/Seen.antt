-- What a layer and a figure show. No public clause cites this module.
use Rattle.gf_plane.specs.declared.colour.Rgb.{Rgb}
use Rattle.gf_figures.specs.declared.figure.Figure.{Figure}
use Rattle.gf_figures.specs.Colours.{Table}
use Rattle.gf_figures.specs.DrawingColour.{figure_colour}
use Rattle.gf_scanline.specs.declared.layer.Layer.{Layer}

module _ {S : Type 0} where
  -- the shape of a layer, and its colour
  abbrev pub seen : Layer S → S × Rgb
  seen l = (l.shape.now, l.brush)

  -- the shape of a figure, and its colour
  abbrev pub seen_figure : Table → Figure S → S × Rgb
  seen_figure table f = (f.shape, figure_colour table f)
