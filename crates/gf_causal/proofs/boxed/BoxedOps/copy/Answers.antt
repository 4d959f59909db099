use Rattle.std.proofs.Common.{ap, ◌∙◌}
use Rattle.std.specs.BTreeMap.{insert_entry}
use Rattle.std.specs.List.Sorted.{IsStrictlySortedBy}
use Rattle.std.specs.Map.{keys_of}
use Rattle.gf_ops.specs.declared.op.Op.{Op}
use Rattle.gf_ops.specs.OperationOrder.{id_cmp}
use Rattle.gf_ops.proofs.EntryLemmas.{copied_more, copied_all}
use Rattle.gf_causal.specs.Keeping.{opened}
use Rattle.gf_causal.proofs.BoxLemmas.{rising_opened}
use Rattle.gf_causal.proofs.HeldLemmas.{ids_total}
use Rattle.gf_causal.proofs.boxed.BoxedOps.copy.Goals as goal

pub loop-id-preserved : goal.loop-id-preserved
loop-id-preserved c =
    let gives = c.into_iter-id-iterator.ensures.into_iter_gives in
    let sorted : IsStrictlySortedBy id_cmp (keys_of c.into_iter-id-iterator.result) = rw gives.0
    gives.5 in
    let made = c.in_ok-insert.ensures.ok
    ∙ ap (λ (a : Op). insert_entry id_cmp c.loop-id.ops c.in-Some.id.now a) (c.in_ok-op.ensures
    ∙ c.deref.ensures) in
    copied_more id_cmp ids_total c.loop-id.ops c.insert.new.self
    (opened c.into_iter-id-iterator.result) c.in-Some.id.now c.in-Some.op.now.value
    (opened c.next.new.self) (opened c.loop-id.id-iterator)
    (rising_opened _ sorted) made (ap opened c.in-Some.ensures.steps) c.loop-id.invariant

pub returns : goal.returns
returns c =
    let gives = c.into_iter-id-iterator.ensures.into_iter_gives in
    rw (← c.self.view_is)
    (copied_all c.loop-id.ops (opened c.loop-id.id-iterator) _ (ap opened c.in-None.ensures.steps.0)
    c.loop-id.invariant ∙ ap opened gives.0)
