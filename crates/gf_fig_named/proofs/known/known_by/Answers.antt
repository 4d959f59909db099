use Rattle.std.proofs.Common.{◌++◌, ◌∙◌, ap, sym}
use Rattle.gf_ops.specs.declared.op.Clock.{Clock}
use Rattle.gf_ops.specs.OperationOrder.{entry}
use Rattle.gf_fig_named.specs.KnownSteps.{last_or}
use Rattle.gf_fig_named.specs.Spelling.{spelt_ids}
use Rattle.gf_fig_named.proofs.KnownLemmas.{counted_entry, told_or_none}
use Rattle.gf_fig_named.proofs.known.known_by.Goals as goal

pub returns-clause-none : goal.returns-clause-none
returns-clause-none c = told_or_none c.args.line.now c.counts_of-counts.result
    (λ s h. ap (λ (k : Clock). entry k s) c.counts_of-counts.ensures
    ∙ (counted_entry (λ t. last_or t 0 c.deref.result.now) s h
    ∙ ap (last_or s 0) (c.deref.ensures.value ∙ (c.in_ok-push_ids.ensures
    ∙ ap (λ ids. ids ++ spelt_ids c.args.line.now) c.new-ids.ensures.items))))
    (λ e. let t = c.is_same.ensures.1 (e ∙ sym (c.deref-2.ensures.value ∙ c.in_ok-text.ensures)) in
    let f = c.if-is_same.false in absurd cc)
