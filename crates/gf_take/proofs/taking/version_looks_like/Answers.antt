use Rattle.gf_take.proofs.ExactLemmas.{look_is_like}
use Rattle.gf_take.proofs.taking.version_looks_like.Goals as goal

pub returns : goal.returns
returns c = λ lawful look.
    c.in_ok-is_like.ensures.1
    (look_is_like c.args.drawing.now.table c.args.item.now c.args.figure.now lawful look)
