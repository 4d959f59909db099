use Rattle.gf_studio.proofs.SameLemmas.{histories_draw, histories_draw_both, histories_paint}
use Rattle.gf_studio.proofs.SameLemmas.{histories_write}
use Rattle.gf_studio.proofs.laws.the_same_histories_draw_alike.Goals as goal

pub returns-clause-drawing : goal.returns-clause-drawing
returns-clause-drawing c = λ bytes others h k d e same drawing other x y. histories_draw bytes
    others h k d e same drawing other x y

pub returns-clause-draws : goal.returns-clause-draws
returns-clause-draws c = λ bytes others h k d e same drawing x. histories_draw_both bytes others h k
    d e same drawing x

pub returns-clause-text : goal.returns-clause-text
returns-clause-text c = λ bytes others h k d e same text other x y. histories_write bytes
    others h k d e same text other x y

pub returns-clause-picture : goal.returns-clause-picture
returns-clause-picture c = λ bytes others h k d e same w text other x y. histories_paint
    bytes others h k d e same w text other x y
