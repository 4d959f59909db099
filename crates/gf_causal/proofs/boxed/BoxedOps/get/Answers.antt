use Rattle.std.proofs.Common.{ap, sym}
use Rattle.std.specs.Prelude.{option_copied}
use Rattle.std.specs.BTreeMap.{is_at}
use Rattle.gf_ops.specs.OperationOrder.{id_cmp}
use Rattle.gf_causal.proofs.BoxLemmas.{none_opened, some_opened}
use Rattle.gf_causal.proofs.boxed.BoxedOps.get.Goals as goal

pub returns-in_err-op : goal.returns-in_err-op
returns-in_err-op c =
    rw (c.from_residual.ensures, ← c.self.view_is)
    (sym (none_opened (is_at (id_cmp c.args.id)) c.self.inside.boxes.entries
    (option_copied c.get.result) c.get.ensures.value (ap option_copied c.in_err-op.was)))

pub returns : goal.returns
returns c =
    rw (c.deref.ensures, ← c.self.view_is)
    (sym (some_opened (is_at (id_cmp c.args.id)) c.self.inside.boxes.entries
    (option_copied c.get.result) c.in_ok-op.op.now c.get.ensures.value
    (ap option_copied c.in_ok-op.was)))
