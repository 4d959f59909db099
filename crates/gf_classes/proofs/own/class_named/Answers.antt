use Rattle.std.proofs.Common.{sym, subst, ◌∙◌}
use Rattle.gf_base.proofs.PositionLemmas.{contained_at}
use Rattle.gf_classes.specs.Own.{IsClassOf}
use Rattle.gf_groups.proofs.IdPositionLemmas.{same_position}
use Rattle.gf_classes.proofs.own.class_named.Goals as goal

pub returns-in-Some-clause-all : goal.returns-in-Some-clause-all
returns-in-Some-clause-all c = λ k n.
    let w = c.in-Some.ensures.found in
    let same = same_position c.args.history.now.ops c.recall_valid.ensures n.position
    c.in-Some.position
    n.op w.op n.at w.at (n.named ∙ sym w.id) in
    c.class_of.ensures.all k
    (subst (λ z. IsClassOf c.args.positions.now c.args.direct.now z k) same n.class)

pub returns-in-None-clause-all : goal.returns-in-None-clause-all
returns-in-None-clause-all c = λ k n.
    absurd (c.in-None.ensures.none n.op
    (contained_at c.args.history.now.ops n.position n.op n.at) n.named)
