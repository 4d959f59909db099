use Rattle.gf_replay.proofs.SameLemmas.{denote_alike}
use Rattle.gf_studio.proofs.SameLemmas.{draw_alike, paint_alike, write_alike}
use Rattle.gf_studio.proofs.laws.the_same_operations_draw_alike.Goals as goal

pub returns-clause-denotes : goal.returns-clause-denotes
returns-clause-denotes c = λ bytes others have h d. denote_alike bytes others have h d

pub returns-clause-drawing : goal.returns-clause-drawing
returns-clause-drawing c = λ bytes others have drawing other d e. draw_alike bytes others have
    drawing other d e

pub returns-clause-text : goal.returns-clause-text
returns-clause-text c = λ bytes others have text other d e. write_alike bytes others have
    text other d e

pub returns-clause-picture : goal.returns-clause-picture
returns-clause-picture c = λ bytes others have w text other d e. paint_alike bytes others
    have w text other d e
