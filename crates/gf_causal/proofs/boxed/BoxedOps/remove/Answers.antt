use Rattle.std.proofs.Common.{sym, ap, ◌∙◌}
use Rattle.std.specs.BTreeMap.{is_at}
use Rattle.gf_ops.specs.OperationOrder.{id_cmp}
use Rattle.gf_causal.specs.Keeping.{opened}
use Rattle.gf_causal.proofs.BoxLemmas.{none_opened, some_opened, opened-remove, rising_opened}
use Rattle.gf_causal.proofs.boxed.BoxedOps.remove.Goals as goal

pub returns-in_err-op-clause-taken : goal.returns-in_err-op-clause-taken
returns-in_err-op-clause-taken c =
    rw (c.from_residual.ensures, ← c.self.view_is)
    (sym (none_opened (is_at (id_cmp c.args.id)) c.self.inside.boxes.entries c.remove.result
    c.remove.ensures.value c.in_err-op.was))

pub returns-in_err-op-clause-left : goal.returns-in_err-op-clause-left
returns-in_err-op-clause-left c =
    rw (← c.self.view_is) (ap opened c.remove.ensures.entries
    ∙ opened-remove (is_at (id_cmp c.args.id)) c.self.inside.boxes.entries)

pub returns-in_err-op-clause-rising : goal.returns-in_err-op-clause-rising
returns-in_err-op-clause-rising c = rising_opened _ c.remove.ensures.ordered

pub returns-clause-taken : goal.returns-clause-taken
returns-clause-taken c =
    rw (c.into_inner.ensures, ← c.self.view_is)
    (sym (some_opened (is_at (id_cmp c.args.id)) c.self.inside.boxes.entries c.remove.result
    c.in_ok-op.op c.remove.ensures.value c.in_ok-op.was))

pub returns-clause-left : goal.returns-clause-left
returns-clause-left c =
    rw (← c.self.view_is) (ap opened c.remove.ensures.entries
    ∙ opened-remove (is_at (id_cmp c.args.id)) c.self.inside.boxes.entries)

pub returns-clause-rising : goal.returns-clause-rising
returns-clause-rising c = rising_opened _ c.remove.ensures.ordered
