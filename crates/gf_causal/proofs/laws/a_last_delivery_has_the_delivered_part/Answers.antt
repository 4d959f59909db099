use Rattle.gf_causal.proofs.CourseLemmas.{delivered_part, same_delivered}
use Rattle.gf_causal.proofs.laws.a_last_delivery_has_the_delivered_part.Goals as goal

pub returns-clause-part : goal.returns-clause-part
returns-clause-part c = λ offered added one last a. delivered_part offered added one last a

pub returns-clause-same : goal.returns-clause-same
returns-clause-same c = λ offered others f g one same l m a. same_delivered offered others f g one
    same l m a
