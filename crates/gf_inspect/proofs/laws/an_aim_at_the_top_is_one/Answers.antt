use Rattle.gf_inspect.proofs.AimedChangeLemmas.{top_founded, top_aimed}
use Rattle.gf_inspect.proofs.laws.an_aim_at_the_top_is_one.Goals as goal

pub returns-clause-object : goal.returns-clause-object
returns-clause-object c = λ h valid p v d t a same counts refused.
    absurd (refused.1 (top_founded h valid p v d t a same counts))

pub returns-clause-aim : goal.returns-clause-aim
returns-clause-aim c = λ h valid p v d t a same counts refused.
    absurd (refused.2 (top_aimed h valid p v d t a same counts))
