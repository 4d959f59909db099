use Rattle.gf_scanline.proofs.piece.reach.Goals as goal

pub returns-in-Some : goal.returns-in-Some
returns-in-Some c = λ holds x y bounds tells held. c.reach.ensures holds x y
    (rw c.in-Some.is at tells) held
