use Rattle.gf_classes.proofs.OwnLemmas.{class_from, class_told, class_missing}
use Rattle.gf_classes.proofs.own.class_of.Goals as goal

pub returns-in-Ok-clause-some : goal.returns-in-Ok-clause-some
returns-in-Ok-clause-some c =
    class_from c.args.positions.now c.args.direct.now c.requires c.args.position c.in-Ok.index
    c.class_at.result c.in-Ok.ensures.position c.class_at.ensures

pub returns-in-Ok-clause-all : goal.returns-in-Ok-clause-all
returns-in-Ok-clause-all c =
    class_told c.args.positions.now c.args.direct.now c.requires c.args.position c.in-Ok.index
    c.class_at.result c.in-Ok.ensures.position c.class_at.ensures

pub returns-in-Err-clause-all : goal.returns-in-Err-clause-all
returns-in-Err-clause-all c = λ k t.
    absurd (class_missing c.args.positions.now c.args.direct.now c.requires c.args.position
    c.in-Err.field-0 c.in-Err.ensures.position k t)
