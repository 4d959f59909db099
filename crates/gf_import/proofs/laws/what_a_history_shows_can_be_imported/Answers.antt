use Rattle.gf_shape.specs.Outlines.{any_outline}
use Rattle.gf_drawing.proofs.CanonicalColour.{canonical_colour-outlined}
use Rattle.gf_figures.specs.Outlined.{outlined}
use Rattle.gf_fig_write.specs.FigText.{fig_text}
use Rattle.gf_fig_write.proofs.CanonicalLemmas.{canonical_reads}
use Rattle.gf_import.proofs.NotRefusedLemmas.{only_memory}
use Rattle.gf_import.proofs.PictureLemmas.{creations_paint}
use Rattle.gf_import.proofs.ShownLemmas.{shown_importable}
use Rattle.gf_import.proofs.laws.what_a_history_shows_can_be_imported.Goals as goal

pub returns-clause-importable : goal.returns-clause-importable
returns-clause-importable c = shown_importable

pub returns-clause-reads : goal.returns-clause-reads
returns-clause-reads c = canonical_reads

pub returns-clause-refused : goal.returns-clause-refused
returns-clause-refused c = λ h d e valid is.
    only_memory (fig_text any_outline d) (outlined any_outline d) e (canonical_reads h d valid is)
    (shown_importable h d valid is)

pub returns-clause-shown : goal.returns-clause-shown
returns-clause-shown c = λ h d valid is. canonical_colour-outlined h d is

pub returns-clause-made : goal.returns-clause-made
returns-clause-made c = λ s h d site valid is.
    creations_paint s (outlined any_outline d) site (shown_importable h d valid is)
