use Rattle.std.proofs.Common.{ap, ◌∙◌}
use Rattle.std.specs.BTreeMap.{insert_entry}
use Rattle.gf_ops.specs.declared.op.Op.{Op}
use Rattle.gf_ops.specs.OperationOrder.{id_cmp}
use Rattle.gf_causal.specs.Keeping.{opened}
use Rattle.gf_causal.proofs.BoxLemmas.{opened-insert, rising_opened}
use Rattle.gf_causal.proofs.boxed.BoxedOps.insert.Goals as goal

pub returns-in-Ok-insert-clause-ok : goal.returns-in-Ok-insert-clause-ok
returns-in-Ok-insert-clause-ok c =
    rw (← c.self.view_is)
    (ap opened c.in-Ok-insert.ensures.entries
    ∙ opened-insert _ c.args.id c.in-Ok.op
    ∙ ap (λ (a : Op). insert_entry id_cmp (opened c.self.inside.boxes.entries) c.args.id a)
    c.in-Ok.ensures.ok)

pub returns-in-Ok-insert-clause-rising : goal.returns-in-Ok-insert-clause-rising
returns-in-Ok-insert-clause-rising c = rising_opened _ c.insert.ensures.ordered
