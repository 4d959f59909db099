use Rattle.gf_drawing.proofs.CanonicalColour.{canonical_colour, canonical_colour-outlined}
use Rattle.gf_drawing.proofs.laws.the_canonical_drawing_paints_the_history.Goals as goal

pub returns-clause-shapes : goal.returns-clause-shapes
returns-clause-shapes c = canonical_colour

pub returns-clause-outlines : goal.returns-clause-outlines
returns-clause-outlines c = canonical_colour-outlined
