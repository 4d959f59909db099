use Rattle.gf_command.proofs.SpellingLemmas.{spelt_point, unspelt_point}
use Rattle.gf_command.proofs.querying.spelt_point.Goals as goal

pub returns-in_err-x : goal.returns-in_err-x
returns-in_err-x c = rw c.from_residual.ensures
    (λ p f g. unspelt_point c.args.text.now c.in_err-x.ensures.cases p)

pub returns : goal.returns
returns c = spelt_point c.args.text.now (c.in_ok-x.x, c.in_ok-x.y) c.in_ok-x.ensures.cases
    c.point_of.result c.point_of.ensures
