-- What the figures of a drawing become: creations of objects (this project's choice).
use Rattle.std.specs.Prelude.{List, map}
use Rattle.gf_shape.specs.declared.outline.Outline.{Outline}
use Rattle.gf_ops.specs.declared.change.Change.{Change}
use Rattle.gf_ops.specs.declared.change.Change.TheVariants.{Create}
use Rattle.gf_figures.specs.declared.figure.Figure.{Figure}
use Rattle.gf_figures.specs.Colours.{Table}
use Rattle.gf_figures.specs.DrawingState.{DrawingState}
use Rattle.gf_objects.specs.Objects.{start_of}

-- the creation of the figure f
abbrev pub creation_of : Table → Figure Outline → Change
creation_of table f = Create (start_of table f)

-- the creations of the figures of d, in file order
abbrev pub creations_of : DrawingState Outline → List Change
creations_of d = map (creation_of d.table) d.figures
