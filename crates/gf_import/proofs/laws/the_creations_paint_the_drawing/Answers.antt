use Rattle.gf_import.proofs.PictureLemmas.{creations_paint, creations_valid}
use Rattle.gf_import.proofs.WrittenLemmas.{authors, only_history}
use Rattle.gf_import.proofs.laws.the_creations_paint_the_drawing.Goals as goal

pub returns-clause-valid : goal.returns-clause-valid
returns-clause-valid c = creations_valid

pub returns-clause-colours : goal.returns-clause-colours
returns-clause-colours c = creations_paint

pub returns-clause-authored : goal.returns-clause-authored
returns-clause-authored c = λ s d site i. authors s site d.table d.figures i.few i.in_range

pub returns-clause-only : goal.returns-clause-only
returns-clause-only c = only_history
