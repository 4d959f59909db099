use Rattle.gf_studio.proofs.PaintingLemmas.{text_not_refused, text_repaints}
use Rattle.gf_studio.proofs.SameLemmas.{histories_draw}
use Rattle.gf_studio.proofs.laws.a_text_is_repainted_as_its_history_is_painted.Goals as goal

pub returns-clause-not_refused : goal.returns-clause-not_refused
returns-clause-not_refused c = λ bytes fig x fault n. text_not_refused bytes fig x fault n

pub returns-clause-picture : goal.returns-clause-picture
returns-clause-picture c = λ bytes fig x w text other y z.
    let d = x.drawn in
    let same = histories_draw bytes bytes d.history d.history d.denoted d.denoted
    (λ a. (λ i. i, λ i. i)) x.drawing y.shown.drawing d y.shown.drawn in
    text_repaints bytes fig x w text other y same z
