use Rattle.std.proofs.Common.{ap, sym, ◌∙◌}
use Rattle.std.specs.Prelude.{filter, not}
use Rattle.std.specs.List.{list_any}
use Rattle.gf_groups.specs.VersionList.{is_before}
use Rattle.gf_status.proofs.LastLemmas.{all_in_range, item_of, last_added, last_passed, lasts_of}
use Rattle.gf_status.proofs.LastLemmas.{now}
use Rattle.gf_status.proofs.setters.lasts.Goals as goal
use Rattle.gf_status.proofs.setters.lasts.Goals.{else-not-some_later}
use Rattle.gf_status.proofs.setters.lasts.Goals.{then-not-some_later+in_ok-lasts+in_ok-push}

pub some_later-requires-clause-op : goal.some_later-requires-clause-op
some_later-requires-clause-op c =
    let h = c.args.history.now.ops in
    let x = c.op-item.result in
    c.recall_valid.ensures.in_range x.now
    (item_of h now c.args.ops.now c.loop-op.op-index x c.requires
    c.loop-op-test.true c.op-item.is)

pub some_later-requires-clause-others : goal.some_later-requires-clause-others
some_later-requires-clause-others c =
    let h = c.args.history.now.ops in
    let xs = c.loop-op.lasts.items in
    rw c.deref.ensures.value
    (all_in_range h c.recall_valid.ensures now xs
    (lasts_of h c.recall_valid.ensures now c.args.ops.now xs
    c.loop-op.op-index c.op-item.result c.loop-op-test.true c.op-item.is c.requires
    c.loop-op.invariant))

pub not_before-requires-clause-op : goal.not_before-requires-clause-op
not_before-requires-clause-op c =
    let h = c.args.history.now.ops in
    let x = c.op-item.result in
    c.recall_valid.ensures.in_range x.now
    (item_of h now c.args.ops.now c.loop-op.op-index x c.requires
    c.loop-op-test.true c.op-item.is)

pub not_before-requires-clause-others : goal.not_before-requires-clause-others
not_before-requires-clause-others c =
    let h = c.args.history.now.ops in
    let xs = c.loop-op.lasts.items in
    rw c.deref-then-not-some_later.ensures.value
    (all_in_range h c.recall_valid.ensures now xs
    (lasts_of h c.recall_valid.ensures now c.args.ops.now xs
    c.loop-op.op-index c.op-item.result c.loop-op-test.true c.op-item.is c.requires
    c.loop-op.invariant))

pub loop-op-preserved : goal.loop-op-preserved
loop-op-preserved c =
    let h = c.args.history.now.ops in
    let xs = c.loop-op.lasts.items in
    let x = c.op-item.result in
    let n = c.loop-op.op-index in
    let test = c.some_later.ensures
    ∙ ap (list_any (λ y. is_before (now x) (now y))) c.deref.ensures.value in
    elim c.if-not-some_later.branch [
      | then-not-some_later+in_ok-lasts+in_ok-push w ↦
          rw (w.lasts-is, w.in_ok-push.ensures.items)
          (last_added h c.recall_valid.ensures now c.args.ops.now xs n x c.loop-op-test.true
          c.op-item.is c.requires c.loop-op.invariant
          (sym test ∙ w.if-not-some_later.true) w.in_ok-lasts.lasts.items
          (w.in_ok-lasts.ensures ∙ ap (filter (λ y. not (is_before (now y) (now x))))
          w.deref-then-not-some_later.ensures.value))
      | else-not-some_later w ↦
          rw w.lasts-is
          (last_passed h c.recall_valid.ensures now c.args.ops.now xs n x c.loop-op-test.true
          c.op-item.is c.requires c.loop-op.invariant (sym test ∙ w.if-not-some_later.false))
    ]
