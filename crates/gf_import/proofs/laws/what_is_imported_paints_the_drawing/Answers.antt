use Rattle.std.proofs.Common.{sym, subst}
use Rattle.gf_drawing.specs.CanonicalDrawing.{PaintsAsFig}
use Rattle.gf_ops.specs.ValidHistory.{IsValid}
use Rattle.gf_fig_read.proofs.GrammarLemmas.{one_drawing}
use Rattle.gf_import.specs.Imported.{history_of}
use Rattle.gf_import.proofs.CommandLemmas.{denotes_creations}
use Rattle.gf_import.proofs.PictureLemmas.{creations_paint, creations_valid}
use Rattle.gf_import.proofs.laws.what_is_imported_paints_the_drawing.Goals as goal

pub returns-clause-valid : goal.returns-clause-valid
returns-clause-valid c = λ s fig text changes site i d.
    subst (λ cs. IsValid (history_of s cs)) (sym (denotes_creations s fig text i changes d))
    (creations_valid s i.drawing site i.importable)

pub returns-clause-colours : goal.returns-clause-colours
returns-clause-colours c = λ s fig text changes d site i denotes reads.
    subst (λ e. PaintsAsFig (history_of s changes) e) (one_drawing fig i.drawing d i.reads reads)
    (subst (λ cs. PaintsAsFig (history_of s cs) i.drawing)
    (sym (denotes_creations s fig text i changes denotes))
    (creations_paint s i.drawing site i.importable))
